use Rattle.fz_model.proofs.Seen.{seen_is_closed}
use Rattle.fz_model.specs.Extents.{extents}
use Rattle.fz_model.proofs.Allocation.{laid_apart, reached_laid}
use Rattle.fz_model.proofs.Standing.{reached_standing, links_stand}
use Rattle.fz_model.proofs.CallLaws.{links_are_made, links_are_unlinked, links_are_moved, hold_gives_the_object}
use Rattle.fz_model.proofs.ObjectLaws.{slots_are_set, rest_is_kept, words_are_loaded, words_are_stored, objects_are_made, blocks_are_shared, empty_blocks_are_room}
use Rattle.fz_model.proofs.EntryLaws.{objects_are_registered, objects_are_unregistered, held_are_counted, in_one_hand}
use Rattle.fz_model.proofs.PassLaws.{each_pass_is_lawful}
use Rattle.fz_model.proofs.CycleLaws.{seen_in_this_cycle}
use Rattle.fz_model.proofs.OrderLaws.{first_is_told, workers_come_first, refused_for_a_cause}
use Rattle.fz_model.proofs.WithinLimits.{tables_are_within}
use Rattle.fz_model.proofs.HasStep.{each_call_has_step, each_event_has_step}
use Rattle.fz_model.proofs.laws.every_call.Goals as goal

pub returns-clause-each_has_step : goal.returns-clause-each_has_step
returns-clause-each_has_step c = each_call_has_step

pub returns-clause-each_event_has_step : goal.returns-clause-each_event_has_step
returns-clause-each_event_has_step c = each_event_has_step

pub returns-clause-short_links_stand : goal.returns-clause-short_links_stand
returns-clause-short_links_stand c s r = links_stand s.objects s.short (reached_standing s r).short

pub returns-clause-long_links_stand : goal.returns-clause-long_links_stand
returns-clause-long_links_stand c s r = links_stand s.objects s.long (reached_standing s r).long

pub returns-clause-links_are_made : goal.returns-clause-links_are_made
returns-clause-links_are_made c s r = links_are_made s

pub returns-clause-first_is_told : goal.returns-clause-first_is_told
returns-clause-first_is_told c s r = first_is_told s

pub returns-clause-workers_come_first : goal.returns-clause-workers_come_first
returns-clause-workers_come_first c moves end r = workers_come_first end

pub returns-clause-tables_are_within : goal.returns-clause-tables_are_within
returns-clause-tables_are_within c = tables_are_within

pub returns-clause-links_are_unlinked : goal.returns-clause-links_are_unlinked
returns-clause-links_are_unlinked c s r = links_are_unlinked s

pub returns-clause-links_are_moved : goal.returns-clause-links_are_moved
returns-clause-links_are_moved c s r = links_are_moved s

pub returns-clause-passes : goal.returns-clause-passes
returns-clause-passes c = each_pass_is_lawful

pub returns-clause-seen : goal.returns-clause-seen
returns-clause-seen c = seen_in_this_cycle

pub returns-clause-holds : goal.returns-clause-holds
returns-clause-holds c = hold_gives_the_object

pub returns-clause-apart : goal.returns-clause-apart
returns-clause-apart c s r = laid_apart s.blocks (extents s.objects) (reached_laid s r)

pub returns-clause-within : goal.returns-clause-within
returns-clause-within c s r = (reached_laid s r).within

pub returns-clause-seen_is_closed : goal.returns-clause-seen_is_closed
returns-clause-seen_is_closed c = seen_is_closed

pub returns-clause-slots_are_set : goal.returns-clause-slots_are_set
returns-clause-slots_are_set c = slots_are_set

pub returns-clause-words_are_loaded : goal.returns-clause-words_are_loaded
returns-clause-words_are_loaded c = words_are_loaded

pub returns-clause-words_are_stored : goal.returns-clause-words_are_stored
returns-clause-words_are_stored c = words_are_stored

pub returns-clause-objects_are_made : goal.returns-clause-objects_are_made
returns-clause-objects_are_made c = objects_are_made

pub returns-clause-blocks_are_shared : goal.returns-clause-blocks_are_shared
returns-clause-blocks_are_shared c = blocks_are_shared

pub returns-clause-empty_blocks_are_room : goal.returns-clause-empty_blocks_are_room
returns-clause-empty_blocks_are_room c = empty_blocks_are_room

pub returns-clause-objects_are_registered : goal.returns-clause-objects_are_registered
returns-clause-objects_are_registered c = objects_are_registered

pub returns-clause-objects_are_unregistered : goal.returns-clause-objects_are_unregistered
returns-clause-objects_are_unregistered c = objects_are_unregistered

pub returns-clause-held_are_counted : goal.returns-clause-held_are_counted
returns-clause-held_are_counted c = held_are_counted

pub returns-clause-in_one_hand : goal.returns-clause-in_one_hand
returns-clause-in_one_hand c = in_one_hand

pub returns-clause-rest_is_kept : goal.returns-clause-rest_is_kept
returns-clause-rest_is_kept c = rest_is_kept

pub returns-clause-refused_for_a_cause : goal.returns-clause-refused_for_a_cause
returns-clause-refused_for_a_cause c s r = refused_for_a_cause s
