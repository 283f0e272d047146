-- How a threads file is read, line by line.
use Rattle.std.proofs.Common.{◌≡◌, ◌≢◌, ℕ, ◌≤◌, ◌<◌, ◌+◌, List, [], ◌∷◌, ◌++◌, Option, Some, None, Result, Ok, Err, true, false, ◌∙◌, ap, sym, refl, subst, append-nil, append_assoc, arith, length, length-append, map, IsTrue, inl, inr, ◌⊎◌}
use Rattle.std.proofs.lemmas.List.{map-append}
use Rattle.std.proofs.lemmas.List.Elements.{All-nil, All-push}
use Rattle.std.specs.Io.KnownBytes.{Consumes, IsAtEnd, prepend_known}
use Rattle.fz_model.specs.declared.refusal.Refusal.{Refusal}
use Rattle.fz_model.specs.declared.refusal.Refusal.TheVariants.{Input}
use Rattle.fz_script.specs.declared.job.Job.{Job}
use Rattle.fz_script.specs.Jobs.{spelling, Fits}
use Rattle.fz_runs.specs.declared.text.input.Ending.{Ending}
use Rattle.fz_runs.specs.declared.text.input.Ending.TheVariants.{Whole, Last, Nothing, TooLong}
use Rattle.fz_runs.specs.declared.text.fault.DriveFault.{DriveFault}
use Rattle.fz_runs.specs.declared.threads.draft.Draft.{Draft}
use Rattle.fz_runs.specs.declared.threads.draft.Draft.TheVariants.{Empty, Opened, Settled}
use Rattle.fz_runs.specs.Lines.{with_lf, IsOneLine, Lines, is_kept, max_line}
use Rattle.fz_runs.specs.Reading.{TakenFor, EndsInput}
use Rattle.fz_runs.specs.Lines.{IsEnded}
use Rattle.fz_runs.specs.declared.threads.limits.TheConstants.{MAX_LINES}
use Rattle.fz_runs.specs.Jobs.{may_follow, NoJob, OneMore, AreJobs, IsNoJob, FileIs, AtJob, IsUnreadable}
use Rattle.fz_runs.specs.Plans.{jobs_in, opened_at, opens_at, FirstAt, unreadable, TakesLine, ReadsJob, ReadsAll, Ends, PlanIsRead}
use Rattle.fz_runs.specs.Devices.{Feed}
use Rattle.fz_runs.proofs.Lines.{filter_kept, filter_skipped, Between, at_first, line_more, ends_here, ends_last, next_at}
use Rattle.fz_runs.proofs.Taking.{took_ahead, no_more}
use Rattle.fz_runs.specs.declared.threads.plan.Plan.{Plan}

-- the first of these jobs is asked for in the line with this number
abbrev pub HasFirst : List (List ℕ) → List Job → ℕ → Type 0
HasFirst lines [] number = Unit {0}
HasFirst lines (job ∷ jobs) number = (before : List (List ℕ)) × (after : List (List ℕ)) × (lines ≡ before ++ spelling job ∷ after) × (length before + 1 ≡ number)

first_stays : (lines : List (List ℕ)) (line : List ℕ) (jobs : List Job) (number : ℕ) → HasFirst lines jobs number → HasFirst (lines ++ line ∷ []) jobs number
first_stays lines line [] number h = tt
first_stays lines line (job ∷ jobs) number h = (h.0, h.1 ++ line ∷ [], ap (λ l. l ++ line ∷ []) h.2 ∙ append_assoc h.0 (spelling job ∷ h.1) (line ∷ []), h.3)

-- a job came, the first or a later one
first_added : (lines : List (List ℕ)) (line : List ℕ) (number : ℕ) (old : Draft) (job : Job) → HasFirst lines (jobs_in old) (opened_at old) → length lines + 1 ≡ number → line ≡ spelling job → HasFirst (lines ++ line ∷ []) (jobs_in old ++ job ∷ []) (opens_at old number)
first_added lines line number Empty job h place is = (lines, [], ap (λ l. lines ++ l ∷ []) is, place)
first_added lines line number (Opened size) job h place is = first_stays lines line (jobs_in (Opened size)) size.line h
first_added lines line number (Settled plan) job h place is = first_stays lines line (jobs_in (Settled plan)) plan.size.line h

opening_more : (lines : List (List ℕ)) (line : List ℕ) (number : ℕ) (old new : Draft) → HasFirst lines (jobs_in old) (opened_at old) → length lines + 1 ≡ number → TakesLine old number line new → HasFirst (lines ++ line ∷ []) (jobs_in new) (opened_at new)
opening_more lines line number old new h place (inl skips) = subst (λ d. HasFirst (lines ++ line ∷ []) (jobs_in d) (opened_at d)) (sym skips.1) (first_stays lines line (jobs_in old) (opened_at old) h)
opening_more lines line number old new h place (inr asks) =
    subst (λ js. HasFirst (lines ++ line ∷ []) js (opened_at new)) (sym asks.4.1)
    (subst (λ n. HasFirst (lines ++ line ∷ []) (jobs_in old ++ asks.0 ∷ []) n) (sym asks.4.2) (first_added lines line number old asks.0 h place asks.3))

first_at : (bytes : List ℕ) (lines : List (List ℕ)) (last : List ℕ) (jobs : List Job) (number : ℕ) → Lines bytes lines last → HasFirst lines jobs number → FirstAt bytes jobs number
first_at bytes lines last [] number split h = tt
first_at bytes lines last (job ∷ []) number split h = tt
first_at bytes lines last (job ∷ next ∷ jobs) number split h = record { before = h.0; after = h.1; last = last; split = subst (λ l. Lines bytes l last) h.2 split; place = h.3 }

-- what comes in the last line isn't the first of more jobs
first_kept : (bytes : List ℕ) (lines : List (List ℕ)) (last : List ℕ) (number : ℕ) (old : Draft) (job : Job) → Lines bytes lines last → HasFirst lines (jobs_in old) (opened_at old) → FirstAt bytes (jobs_in old ++ job ∷ []) (opens_at old number)
first_kept bytes lines last number Empty job split h = tt
first_kept bytes lines last number (Opened size) job split h = first_at bytes lines last (jobs_in (Opened size) ++ job ∷ []) size.line split h
first_kept bytes lines last number (Settled plan) job split h = first_at bytes lines last (jobs_in (Settled plan) ++ job ∷ []) plan.size.line split h

first_last : (bytes : List ℕ) (lines : List (List ℕ)) (last : List ℕ) (number : ℕ) (old new : Draft) → Lines bytes lines last → HasFirst lines (jobs_in old) (opened_at old) → TakesLine old number last new → FirstAt bytes (jobs_in new) (opened_at new)
first_last bytes lines last number old new split h (inl skips) = subst (λ d. FirstAt bytes (jobs_in d) (opened_at d)) (sym skips.1) (first_at bytes lines last (jobs_in old) (opened_at old) split h)
first_last bytes lines last number old new split h (inr asks) =
    subst (λ js. FirstAt bytes js (opened_at new)) (sym asks.4.1) (subst (λ n. FirstAt bytes (jobs_in old ++ asks.0 ∷ []) n) (sym asks.4.2) (first_kept bytes lines last number old asks.0 split h))

-- between two lines
abbrev pub Place : List ℕ → ℕ → Draft → Type 0
Place bytes number draft = Between (λ lines. AreJobs lines (jobs_in draft) × HasFirst lines (jobs_in draft) (opened_at draft)) bytes number

no_jobs : AreJobs [] []
no_jobs = record { spelled = refl; fit = All-nil Fits; in_order = NoJob; short = All-nil (λ line. length line ≤ max_line); few = omega arith }

pub first_place : (draft : Draft) → draft ≡ Empty → Place [] 1 draft
first_place draft e = subst (Place [] 1) (sym e) (at_first (λ lines. AreJobs lines [] × HasFirst lines [] 0) (no_jobs, tt))

jobs_skip : (lines : List (List ℕ)) (jobs : List Job) (line : List ℕ) → AreJobs lines jobs → length line ≤ max_line → length lines + 1 ≤ MAX_LINES → is_kept line ≡ false → AreJobs (lines ++ line ∷ []) jobs
jobs_skip lines jobs line a short few skipped = record {
  spelled = filter_skipped lines line skipped ∙ a.spelled;
  fit = a.fit;
  in_order = a.in_order;
  short = All-push (λ l. length l ≤ max_line) lines line a.short short;
  few = omega (arith, length-append lines (line ∷ []));
}

jobs_ask : (lines : List (List ℕ)) (jobs : List Job) (line : List ℕ) (job : Job) → AreJobs lines jobs → length line ≤ max_line → length lines + 1 ≤ MAX_LINES → is_kept line ≡ true → Fits job → line ≡ spelling job → may_follow jobs job ≡ true
    → AreJobs (lines ++ line ∷ []) (jobs ++ job ∷ [])
jobs_ask lines jobs line job a short few kept fits is follows = record {
  spelled = filter_kept lines line kept ∙ ap (λ l. l ++ line ∷ []) a.spelled ∙ ap (λ l. map spelling jobs ++ l ∷ []) is ∙ sym (map-append spelling jobs (job ∷ []));
  fit = All-push Fits jobs job a.fit fits;
  in_order = OneMore jobs job a.in_order follows;
  short = All-push (λ l. length l ≤ max_line) lines line a.short short;
  few = omega (arith, length-append lines (line ∷ []));
}

-- a line was taken
jobs_more : (lines : List (List ℕ)) (line : List ℕ) (number : ℕ) (old new : Draft) → AreJobs lines (jobs_in old) → length line ≤ max_line → length lines + 1 ≤ MAX_LINES → TakesLine old number line new → AreJobs (lines ++ line ∷ []) (jobs_in new)
jobs_more lines line number old new a short few takes = elim takes [
  | inl skips ↦ subst (λ d. AreJobs (lines ++ line ∷ []) (jobs_in d)) (sym skips.1) (jobs_skip lines (jobs_in old) line a short few skips.0)
  | inr asks ↦ subst (λ js. AreJobs (lines ++ line ∷ []) js) (sym asks.4.1) (jobs_ask lines (jobs_in old) line asks.0 a short few asks.1 asks.2 asks.3 asks.4.0)
]

-- a line with its LF was taken
pub place_more : (seen line : List ℕ) (number : ℕ) (old new : Draft) → Place seen number old → IsOneLine line → length line ≤ max_line → number ≤ MAX_LINES → TakesLine old number line new → Place (seen ++ with_lf line) (number + 1) new
place_more seen line number old new p one short few takes =
    let place = p.place in
    line_more (λ lines. AreJobs lines (jobs_in new) × HasFirst lines (jobs_in new) (opened_at new)) seen line number p one
    (jobs_more p.lines line number old new p.holds.0 short (omega (arith, place, few)) takes, opening_more p.lines line number old new p.holds.1 p.place takes)

-- the file ended between two lines
pub file_ends : (seen bytes : List ℕ) (number : ℕ) (draft : Draft) → Place seen number draft → bytes ≡ [] → FileIs (seen ++ bytes) (jobs_in draft) number × FirstAt (seen ++ bytes) (jobs_in draft) (opened_at draft)
file_ends seen bytes number draft p e =
    let file = ends_here (λ lines. AreJobs lines (jobs_in draft)) seen bytes number p e p.holds.0 in
    (file, first_at (seen ++ bytes) p.lines [] (jobs_in draft) (opened_at draft) file.split p.holds.1)

-- the file ended with a line that has no LF
pub file_ends_last : (seen bytes line : List ℕ) (number : ℕ) (old new : Draft) → Place seen number old → bytes ≡ line → line ≢ [] → IsOneLine line → length line ≤ max_line → number ≤ MAX_LINES → TakesLine old number line new
    → FileIs (seen ++ bytes) (jobs_in new) (number + 1) × FirstAt (seen ++ bytes) (jobs_in new) (opened_at new)
file_ends_last seen bytes line number old new p e some one short few takes =
    let place = p.place in
    let file = ends_last (λ lines. AreJobs lines (jobs_in new)) seen bytes line number p e some one (jobs_more p.lines line number old new p.holds.0 short (omega (arith, place, few)) takes) in
    (file, first_last (seen ++ bytes) p.lines line number old new file.split p.holds.1 takes)

-- the bytes of a line after which the reading goes on, and which is not the last
pub whole_taken : (number : ℕ) (ending : Ending) (old new : Draft) (line bytes : List ℕ) → ReadsJob number ending old line (Ok tt) new → ending ≢ Nothing → ending ≢ Last → TakenFor ending line bytes → bytes ≡ with_lf line
whole_taken number Whole old new line bytes h n l t = t
whole_taken number Last old new line bytes h n l t = absurd (l refl)
whole_taken number Nothing old new line bytes h n l t = absurd (n refl)
whole_taken number TooLong old new line bytes h n l t = absurd (h.0 refl)

-- ---- faults

-- the reader failed
pub breaks_off : (input left : Feed) (seen line u : List ℕ) (number : ℕ) (draft : Draft) → Place seen number draft → Consumes input.remaining (prepend_known u left.remaining) (seen ++ line) → IsOneLine line → length line ≤ max_line → u ≡ [] → left.failures ≡ input.failures + 1
    → IsUnreadable input left (unreadable Input number)
breaks_off input left seen line u number draft p took one short e failed = (
  (seen ++ line, u, took_ahead input.remaining left.remaining (seen ++ line) u took, (refl, e, p.lines, line, jobs_in draft, record { is = ap (λ b. b ++ line) p.is; each = p.each; one = one }, short, p.holds.0)),
  failed,
)

at_job : (seen bytes line end : List ℕ) (left : Option (List ℕ)) (number : ℕ) (draft : Draft) → Place seen number draft → bytes ≡ line ++ end → IsOneLine line → IsEnded line end left → AtJob (seen ++ bytes) left number line (jobs_in draft)
at_job seen bytes line end left number draft p is one ended = next_at (λ lines. AreJobs lines (jobs_in draft)) seen bytes line end left number p is one ended p.holds.0

-- this line is malformed
abbrev pub IsBadAt : List ℕ → Option (List ℕ) → ℕ → Draft → Type 0
IsBadAt bytes left number draft = (line : List ℕ) × AtJob bytes left number line (jobs_in draft) × IsNoJob (jobs_in draft) number line

abbrev IsBad : ℕ → Ending → Draft → List ℕ → Type 0
IsBad number ending old line = (ending ≡ TooLong) ⊎ ((MAX_LINES < number) ⊎ (IsTrue (is_kept line) × ((job : Job) → Fits job → line ≡ spelling job → may_follow (jobs_in old) job ≡ false)))

bad_line : (ending : Ending) (number : ℕ) (old : Draft) (line : List ℕ) → ending ≢ TooLong → IsBad number ending old line → IsNoJob (jobs_in old) number line
bad_line ending number old line other (inl long) = absurd (other long)
bad_line ending number old line other (inr bad) = inr bad

bad_at : (seen bytes line : List ℕ) (left : Option (List ℕ)) (number : ℕ) (ending : Ending) (old : Draft) → Place seen number old → TakenFor ending line bytes → EndsInput ending left → IsOneLine line → length line ≤ max_line → ending ≢ Nothing → IsBad number ending old line → IsBadAt (seen ++ bytes) left number old
bad_at seen bytes line left number Whole old p t end one short n bad = (line, at_job seen bytes line (10 ∷ []) left number old p t one (inl refl), bad_line Whole number old line (λ e. absurd cc) bad)
bad_at seen bytes line left number Last old p t end one short n bad = (line, at_job seen bytes line [] left number old p (t.0 ∙ sym (append-nil line)) one (inr (refl, inl (end, t.1))), bad_line Last number old line (λ e. absurd cc) bad)
bad_at seen bytes line left number Nothing old p t end one short n bad = absurd (n refl)
bad_at seen bytes line left number TooLong old p t end one short n bad =
    let longer : length (line ++ t.0 ∷ []) ≡ max_line + 1 = let l = t.3 in omega (arith, length-append line (t.0 ∷ []), l) in
    (line ++ t.0 ∷ [], at_job seen bytes (line ++ t.0 ∷ []) [] left number old p (t.1 ∙ sym (append-nil _)) (All-push (λ b. b ≢ 10) line t.0 one t.2) (inr (refl, inr longer)), inl (omega (arith, longer)))

-- a line that stopped the reading
pub stops_at : (input left : Feed) (seen bytes line u : List ℕ) (number : ℕ) (ending : Ending) (old new : Draft) (refusal : Refusal)
    → Place seen number old → Consumes input.remaining (prepend_known u left.remaining) (seen ++ bytes) → TakenFor ending line bytes → EndsInput ending (prepend_known u left.remaining) → IsOneLine line → length line ≤ max_line → ending ≢ Nothing → left.failures ≡ input.failures
    → ReadsJob number ending old line (Err refusal) new → IsUnreadable input left (unreadable refusal number)
stops_at input left seen bytes line u number ending old new refusal p took t end one short n reads (inl lacks) =
    subst (λ q. IsUnreadable input left (unreadable q number)) (sym lacks) ((seen ++ bytes, u, took_ahead input.remaining left.remaining (seen ++ bytes) u took, refl), no_more reads refl)
stops_at input left seen bytes line u number ending old new refusal p took t end one short n reads (inr bad) =
    let at = bad_at seen bytes line (prepend_known u left.remaining) number ending old p t end one short n bad.1 in
    subst (λ q. IsUnreadable input left (unreadable q number)) (sym bad.0) ((seen ++ bytes, u, took_ahead input.remaining left.remaining (seen ++ bytes) u took, inl (at.0, jobs_in old, at.1, at.2)), no_more reads refl)

-- ---- the whole file

at_end_of : (r : Option (List ℕ)) → IsAtEnd r → IsAtEnd (prepend_known [] r)
at_end_of None h = tt
at_end_of (Some v) h = h

took_nil : (a r : Option (List ℕ)) (y : List ℕ) → Consumes a r y → Consumes a r (y ++ [])
took_nil a r y t = subst (λ b. Consumes a r b) (sym (append-nil y)) t

pub plan_is_read : (input left : Feed) (number : ℕ) (draft : Draft) (result : Result Plan DriveFault) → ReadsAll input draft (Ok number) left → Ends draft number result → PlanIsRead input result left
plan_is_read input left number draft (Ok plan) read is =
    let file = subst (λ d. FileIs read.0 (jobs_in d) number × FirstAt read.0 (jobs_in d) (opened_at d)) is (read.3, read.4) in
    (read.0, read.1, read.2, (number, file.0), file.1, read.5)
plan_is_read input left number draft (Err fault) read is =
    subst (λ (f : DriveFault). IsUnreadable input left f) (sym is.0)
    ((read.0, [], took_nil input.remaining left.remaining read.0 read.1, inr (jobs_in draft, read.3, is.1, at_end_of left.remaining read.2)), no_more read.5 refl)
