-- What is told of a run of a threads file.
use Rattle.std.proofs.Common.{◌≡◌, ℕ, ◌+◌, List, [], ◌∷◌, ◌++◌, Option, None, Result, Ok, Err, IfOk, IfErr, true, sym, refl, subst, append-nil, arith, inl, inr, ◌⊎◌}
use Rattle.std.proofs.KnownBytes.{Appends-nil}
use Rattle.std.specs.Io.KnownBytes.{Consumes, IsAtEnd}
use Rattle.fz_model.specs.declared.limits.TheConstants.{MAX_BLOCKS, MAX_FRAMES, MAX_WORKERS}
use Rattle.fz_model.specs.declared.refusal.Refusal.{Refusal}
use Rattle.fz_model.specs.declared.refusal.Refusal.TheVariants.{BadLine, BadCount, NoMemory, Output, Input}
use Rattle.fz_model.specs.Causes.{bad_count, first_cause, IsRefusedFor}
use Rattle.fz_script.specs.declared.job.Job.{Job}
use Rattle.fz_service.specs.States.{Origin}
use Rattle.fz_runs.specs.declared.text.fault.DriveFault.{DriveFault}
use Rattle.fz_runs.specs.declared.threads.tally.Tally.{Tally}
use Rattle.fz_runs.specs.declared.threads.plan.Plan.{Plan}
use Rattle.fz_runs.specs.Devices.{Feed, Log, Gains, GainsPart}
use Rattle.fz_runs.specs.Faults.{failures_of}
use Rattle.fz_runs.proofs.Lines.{counts_only}
use Rattle.fz_runs.proofs.Taking.{no_more}
use Rattle.fz_runs.specs.Written.{text_line, malformed_words, refused_words}
use Rattle.fz_runs.specs.Jobs.{Asked, IsThreadsFile, OpensAt, Unreadable, IsUnreadable}
use Rattle.fz_runs.specs.Tallies.{summary_text}
use Rattle.fz_runs.specs.Plans.{asked_by, PlanIsRead}
use Rattle.fz_runs.specs.Holds.{SectionsRefused, Settles}
use Rattle.fz_runs.specs.Threads.{Summarizes, DrivesSections, HasRead, service_causes, IsDueFor, Malformed, NotOpened, Summary, ExplainsRun, RunStopped, DrivesThreads}
use Rattle.fz_runs.specs.Telling.{lineless, TellsFault, text_for, opening_fault, asked_from, TellsEnd, TellsSummary, IsDueAfter, Refused, Summed, StopsRun, RunsPlan}

-- ---- a refused opening

-- an opening is refused for one of two reasons
two_refusals : (asked : Asked) (q : Refusal) → IsRefusedFor (service_causes asked) true q → (q ≡ BadCount) ⊎ (q ≡ NoMemory)
two_refusals asked q h = elim h [
  | inl first ↦ inl (counts_only (bad_count MAX_BLOCKS asked.blocks).0 (bad_count MAX_FRAMES asked.frames).0 (bad_count MAX_WORKERS asked.workers).0 q first)
  | inr none ↦ inr none.1
]

-- a part of a text that was due was written
part_stops : (asked : Asked) (opening : ℕ) (due : List ℕ) (old new : Log) (fault : DriveFault) → IsDueAfter asked due → fault ≡ lineless Output → GainsPart old due new → RunsPlan asked opening old (Err fault) new
part_stops asked opening due old new fault is e gains =
    let part = gains.0 in
    subst (λ k. RunsPlan asked opening old (Err k) new) (sym e) (part.0, part.4, (refl, due, part.1, part.2, part.3, is), gains.1)

refusal_told : (asked : Asked) (opening : ℕ) (q : Refusal) (old new : Log) (fault : DriveFault) → IsRefusedFor (service_causes asked) true q → fault ≡ opening_fault q opening → Gains old (text_line (refused_words q)) new → RunsPlan asked opening old (Err fault) new
refusal_told asked opening BadCount old new fault h e w = subst (λ k. RunsPlan asked opening old (Err k) new) (sym e) (text_line (refused_words BadCount), w.0, (refl, h, refl), no_more w.1 refl)
refusal_told asked opening NoMemory old new fault h e w = subst (λ k. RunsPlan asked opening old (Err k) new) (sym e) (text_line (refused_words NoMemory), w.0, (refl, inr (h, refl)), no_more w.1 refl)
refusal_told asked opening q old new fault h e w = elim (two_refusals asked q h) [ inl r ↦ absurd cc | inr r ↦ absurd cc ]

pub refusal_stops : (asked : Asked) (opening : ℕ) (q : Refusal) (old new : Log) (fault : DriveFault) → IsRefusedFor (service_causes asked) true q → TellsFault (text_line (refused_words q)) (opening_fault q opening) old fault new → RunsPlan asked opening old (Err fault) new
refusal_stops asked opening q old new fault h (inl whole) = refusal_told asked opening q old new fault h whole.0 whole.1
refusal_stops asked opening q old new fault h (inr part) = part_stops asked opening (text_line (refused_words q)) old new fault (Refused q h) part.0 part.1

-- the summary was due, and it was written or not
pub summary_tells : (asked : Asked) (opening : ℕ) (tally : Tally) (old new : Log) (result : Result (Unit {0}) DriveFault) → Summarizes asked tally → TellsSummary tally old result new → RunsPlan asked opening old result new
summary_tells asked opening tally old new (Ok x) h t = (tally, h, t)
summary_tells asked opening tally old new (Err fault) h t = part_stops asked opening (summary_text tally) old new fault (Summed tally h) t.0 t.1

-- the numbers of an ended service are those of the run
pub sums_up : (origin : Origin) (collections : ℕ) (jobs : List Job) (refused : ℕ) (tally : Tally) → first_cause (service_causes (asked_from origin collections jobs)) ≡ None → SectionsRefused origin jobs refused → Settles origin collections → TellsEnd origin refused tally → Summarizes (asked_from origin collections jobs) tally
sums_up origin collections jobs refused tally within sections settles ends =
    let all = ends.2.2.all in
    let spent = ends.2.2.spent in
    subst (Summarizes (asked_from origin collections jobs)) (sym ends.4) (
    record {
      origin = origin;
      opened = (refl, refl, refl);
      within = within;
      seats = ends.0;
      end = ends.1;
      ended = ends.2;
      each_once = ends.3;
      told = refl;
      refused = sections;
      settled = settles;
      balanced = omega (arith, all, spent);
    }
    )

-- no memory at the end: nothing was written
pub silence_stops : (asked : Asked) (opening : ℕ) (log : Log) (fault : DriveFault) → fault ≡ lineless NoMemory → RunsPlan asked opening log (Err fault) log
silence_stops asked opening log fault e = subst (λ k. RunsPlan asked opening log (Err k) log) (sym e) ([], Appends-nil log.written, (refl, inl refl), no_more refl refl)

-- ---- a run of a plan, with how it was read

due_for : (asked : Asked) (bytes : List ℕ) (left : Option (List ℕ)) (due : List ℕ) → IsAtEnd left → IsThreadsFile bytes asked → IsDueAfter asked due → IsDueFor bytes [] left due
due_for asked bytes left due whole file (Refused q h) = NotOpened asked q refl whole file h
due_for asked bytes left due whole file (Summed tally h) = Summary asked tally refl whole file h

plan_explains : (asked : Asked) (opening : ℕ) (q : Refusal) (number : ℕ) (text bytes : List ℕ) (left : Option (List ℕ)) → IsAtEnd left → IsThreadsFile bytes asked → OpensAt bytes opening asked → StopsRun asked opening q number text → ExplainsRun q number bytes [] left text
plan_explains asked opening BadCount number text bytes left whole file at h = (asked, refl, whole, file, subst (λ n. OpensAt bytes n asked) (sym h.0) at, h.1, h.2)
plan_explains asked opening NoMemory number text bytes left whole file at h = (h.0, elim h.1 [ inl none ↦ inl none | inr told ↦ inr (asked, refl, whole, file, told.0, told.1) ])
plan_explains asked opening Output number text bytes left whole file at h = (h.0, h.1, h.2, h.3, h.4, due_for asked bytes left h.1 whole file h.5)
plan_explains asked opening q number text bytes left whole file at h = absurd h

no_read_fault : (asked : Asked) (opening : ℕ) (q : Refusal) (number : ℕ) (text : List ℕ) → StopsRun asked opening q number text → failures_of Input (record { refusal = q; line = number }) ≡ 0
no_read_fault asked opening BadCount number text h = refl
no_read_fault asked opening NoMemory number text h = refl
no_read_fault asked opening Output number text h = refl
no_read_fault asked opening q number text h = absurd h

plan_is_file : (input left : Feed) (plan : Plan) → PlanIsRead input (Ok plan) left → HasRead input left (asked_by plan)
plan_is_file input left plan read = record { bytes = read.0; read = read.1; whole = read.2; reads = read.5; file = read.3 }

pub plan_drives : (input left : Feed) (old new : Log) (plan : Plan) (result : Result (Unit {0}) DriveFault) → PlanIsRead input (Ok plan) left → RunsPlan (asked_by plan) plan.size.line old result new → DrivesThreads input old result left new
plan_drives input left old new plan (Ok x) read runs =
    record { asked = asked_by plan; tally = runs.0; file = plan_is_file input left plan read; summary = runs.1; written = runs.2 }
plan_drives input left old new plan (Err fault) read runs = record {
  bytes = read.0;
  unread = [];
  text = runs.0;
  read = subst (λ b. Consumes input.remaining left.remaining b) (sym (append-nil read.0)) read.1;
  written = runs.1;
  explains = plan_explains (asked_by plan) plan.size.line fault.refusal fault.line runs.0 read.0 left.remaining read.2 read.3 read.4 runs.2;
  reads = no_more read.5 (no_read_fault (asked_by plan) plan.size.line fault.refusal fault.line runs.0 runs.2);
  writes = runs.3;
}

-- ---- a file that can't be carried out

nothing_left : (part rest : List ℕ) → [] ≡ part ++ rest → rest ≡ []
nothing_left [] rest e = sym e
nothing_left (x ∷ xs) rest e = absurd cc

no_part : (old new : Log) → GainsPart old [] new → ⊥
no_part old new part = part.0.3 (nothing_left part.0.0 part.0.1 part.0.2)

-- what was written tells the cause, which is no failed write
unread_explains : (q : Refusal) (number : ℕ) (bytes unread : List ℕ) (left : Option (List ℕ)) → Unreadable q number bytes unread left → ExplainsRun q number bytes unread left (text_for q number) × (failures_of Output (record { refusal = q; line = number }) ≡ 0)
unread_explains BadLine number bytes unread left h = ((h, refl), refl)
unread_explains Input number bytes unread left h = ((h, refl), refl)
unread_explains NoMemory number bytes unread left h = ((h, inl refl), refl)
unread_explains q number bytes unread left h = absurd h

unread_told : (input left : Feed) (old new : Log) (q : Refusal) (number : ℕ) (bytes unread : List ℕ) → Consumes input.remaining left.remaining (bytes ++ unread) → Unreadable q number bytes unread left.remaining
    → left.failures ≡ input.failures + failures_of Input (record { refusal = q; line = number }) → Gains old (text_for q number) new → RunStopped input left old new (record { refusal = q; line = number })
unread_told input left old new q number bytes unread took h failed w =
    let e = unread_explains q number bytes unread left.remaining h in
    record { bytes = bytes; unread = unread; text = text_for q number; read = took; written = w.0; explains = e.0; reads = failed; writes = no_more w.1 e.1 }

unread_broken : (input left : Feed) (old new : Log) (q : Refusal) (number : ℕ) (bytes unread : List ℕ) → Consumes input.remaining left.remaining (bytes ++ unread) → Unreadable q number bytes unread left.remaining
    → left.failures ≡ input.failures + failures_of Input (record { refusal = q; line = number }) → GainsPart old (text_for q number) new → RunStopped input left old new (lineless Output)
unread_broken input left old new BadLine number bytes unread took h failed gains =
    let part = gains.0 in
    record { bytes = bytes; unread = unread; text = part.0; read = took; written = part.4; explains = (refl, text_line (malformed_words number), part.1, part.2, part.3, Malformed number h); reads = failed; writes = gains.1 }
unread_broken input left old new Input number bytes unread took h failed gains = absurd (no_part old new gains)
unread_broken input left old new NoMemory number bytes unread took h failed gains = absurd (no_part old new gains)
unread_broken input left old new q number bytes unread took h failed gains = absurd h

pub unreadable_drives : (input left : Feed) (old new : Log) (known fault : DriveFault) → IsUnreadable input left known → TellsFault (text_for known.refusal known.line) known old fault new → RunStopped input left old new fault
unreadable_drives input left old new known fault h (inl whole) =
    subst (RunStopped input left old new) (sym whole.0) (unread_told input left old new known.refusal known.line h.0.0 h.0.1 h.0.2 h.0.3 h.1 whole.1)
unreadable_drives input left old new known fault h (inr part) =
    subst (RunStopped input left old new) (sym part.0) (unread_broken input left old new known.refusal known.line h.0.0 h.0.1 h.0.2 h.0.3 h.1 part.1)

-- ---- sections over an open service

-- sections of a plan that was read were carried out, or memory ran out
pub plan_carried_out : (origin : Origin) (input left : Feed) (plan : Plan) (result : Result ℕ DriveFault) → PlanIsRead input (Ok plan) left → IfOk result (SectionsRefused origin plan.jobs.items) → IfErr result (λ fault. fault ≡ lineless NoMemory) → Settles origin plan.collections → DrivesSections origin input result left
plan_carried_out origin input left plan (Ok refused) read sections fault settled =
    record { asked = asked_by plan; file = plan_is_file input left plan read; sections = sections; settled = settled }
plan_carried_out origin input left plan (Err k) read sections fault settled = inr (asked_by plan, plan_is_file input left plan read, fault)
