-- The lines of a trace, written one after the other.
use Rattle.std.proofs.Common.{◌≡◌, ◌≤◌, ◌<◌, ◌+◌, inl, inr, ℕ, List, [], ◌∷◌, ◌++◌, take, refl, subst, append_assoc, append-nil, ap, ◌∙◌, sym, arith, Option, Result, Ok, Err, Some, slice_get, length, length-take, get_or}
use Rattle.std.specs.Prelude.{codes, OnOk, OnErr, IfErr}
use Rattle.std.proofs.lemmas.List.{take_all, take_more}
use Rattle.std.proofs.lemmas.Option.{slice_get_read}
use Rattle.std.specs.Io.KnownBytes.{append_known}
use Rattle.omx_types.specs.declared.fault.Fault.{Fault}
use Rattle.omx_types.specs.declared.fault.Fault.TheVariants.{WriteFault, OutOfMemory}
use Rattle.outside_io.specs.Causes.{Rose}
use Rattle.outside_io.specs.Moves.{AppendsFront}
use Rattle.outside_io.proofs.Known.{append_known-twice, append_known-nil}
use Rattle.outside_io.proofs.Fronts.{front-after}
use Rattle.script_lang.specs.declared.form.TraceLine.{TraceLine}
use Rattle.script_lang.specs.declared.script.Script.TheVariants.{Trace}
use Rattle.trace_run.specs.Naming.{Moment}
use Rattle.trace_run.specs.Replying.{LineReply}
use Rattle.trace_run.specs.Lines.{Answered}
use Rattle.trace_run.specs.Works.{OnDesk, IsDeskMoment}
use Rattle.trace_run.specs.Traced.{line_text, Lead, beginning, GotTrace, GotFront, GotLines, IsStopped}
use Rattle.trace_run.specs.Writing.{PrintsLine, IsCutAt, PassesOn, GotBody, IsPast, IsBroken, FromEach}

-- ---- one line after others

lead_then : (number : ℕ) (at : Moment) (lines : List TraceLine) (text : List ℕ) (last : Moment) (line : TraceLine) (reply : LineReply) (next : Moment) → Lead number at lines text last → Answered last line.form reply next
    → Lead number at (lines ++ line ∷ []) (text ++ line_text (number + length lines) line reply) next
lead_then number at [] text last line reply next (none, same) answered =
    let zero : number + length {A = TraceLine} [] ≡ number = omega arith in (
      reply,
      next,
      [],
      subst (λ (m : Moment). Answered m line.form reply next) same answered,
      (refl, refl),
      ap (λ t. t ++ line_text (number + length {A = TraceLine} []) line reply) none ∙ ap (λ k. line_text k line reply) zero ∙ sym (append-nil (line_text number line reply)),
    )
lead_then number at (first ∷ lines) text last line reply next (said, then, rest, answered, more, is) ends =
    let one : number + length (first ∷ lines) ≡ (number + 1) + length lines = omega arith in (
      said,
      then,
      rest ++ line_text ((number + 1) + length lines) line reply,
      answered,
      lead_then (number + 1) then lines rest last line reply next more ends,
      ap (λ t. t ++ line_text (number + length (first ∷ lines)) line reply) is
          ∙ append_assoc (line_text number first said) rest (line_text (number + length (first ∷ lines)) line reply)
          ∙ ap (λ k. line_text number first said ++ (rest ++ line_text k line reply)) one,
    )

-- From each moment that was stood for the lines lead to one that is stood for now. Their text is what was written, and behind it what waits.
abbrev pub Carries : OnDesk → OnDesk → List TraceLine → List ℕ → Option (List ℕ) → Option (List ℕ) → Type 0
Carries from now lines waiting old new =
    (at : Moment) → IsDeskMoment from at → (gone : List ℕ) × (last : Moment) × IsDeskMoment now last × Lead 1 at lines (gone ++ waiting) last × (new ≡ append_known old gone)

pub carries_none : (from : OnDesk) (lines : List TraceLine) (old : Option (List ℕ)) → Carries from from (take 0 lines) [] old old
carries_none from [] old at S = ([], at, S, (refl, refl), sym (append_known-nil old))
carries_none from (line ∷ lines) old at S = ([], at, S, (refl, refl), sym (append_known-nil old))

-- a line's text behind those of the lines before
pub record Prints (now next : OnDesk) (lines : List TraceLine) (line : TraceLine) (piece : List ℕ) (at : Moment) (text : List ℕ) : Type 0 where
  pub last : Moment
  pub stood : IsDeskMoment next last
  pub lead : Lead 1 at (lines ++ line ∷ []) (text ++ piece) last

prints_more : (now next : OnDesk) (lines : List TraceLine) (number : ℕ) (line : TraceLine) (before piece : List ℕ) (at : Moment) (text : List ℕ) (last : Moment) → IsDeskMoment now last → Lead 1 at lines text last
    → number ≡ length lines + 1 → before ≡ [] → PrintsLine now next number line before piece → Prints now next lines line piece at text
prints_more now next lines number line before piece at text last S lead count empty (reply, leads, is) =
    let x = leads last S in
    let one : 1 + length lines ≡ number = omega (arith, count) in
    let same : line_text (1 + length lines) line reply ≡ piece = ap (λ k. line_text k line reply) one ∙ sym (is ∙ ap (λ b. b ++ line_text number line reply) empty) in
    record {
      last = x.0;
      stood = x.1;
      lead = subst (λ (p : List ℕ). Lead 1 at (lines ++ line ∷ []) (text ++ p) x.0) same (lead_then 1 at lines text last line reply x.0 lead x.2);
    }

carries_more : (from now next : OnDesk) (lines : List TraceLine) (number : ℕ) (line : TraceLine) (before piece waiting rest : List ℕ) (old mid new : Option (List ℕ)) → Carries from now lines waiting old mid
    → number ≡ length lines + 1 → before ≡ [] → PrintsLine now next number line before piece → PassesOn mid new waiting piece rest → Carries from next (lines ++ line ∷ []) rest old new
carries_more from now next lines number line before piece waiting rest old mid new carries count empty prints (more, is, parts) at S =
    let (gone, last, T, lead, got) = carries at S in
    let x = prints_more now next lines number line before piece at (gone ++ waiting) last T lead count empty prints in
    let same : (gone ++ waiting) ++ piece ≡ (gone ++ more) ++ rest = append_assoc gone waiting piece ∙ ap (λ t. gone ++ t) parts ∙ sym (append_assoc gone more rest) in (
      gone ++ more,
      x.last,
      x.stood,
      subst (λ (t : List ℕ). Lead 1 at (lines ++ line ∷ []) t x.last) same x.lead,
      is ∙ ap (λ t. append_known t more) got ∙ append_known-twice old gone more,
    )

-- a line more
next_line : (lines : List TraceLine) (place : ℕ) (line : TraceLine) → place < length lines → line ≡ get_or lines place line → take place lines ++ line ∷ [] ≡ take (place + 1) lines
next_line lines place line below is = ap (λ (l : TraceLine). take place lines ++ l ∷ []) is ∙ sym (take_more lines place line below)

pub err_then : {T E : Type 0} (P Q : E → Type 0) (r : Result T E) → IfErr r P → ((e : E) → P e → Q e) → IfErr r Q
err_then P Q (Ok x) h f = tt
err_then P Q (Err error) h f = f error h

pub ok_so : {T E P Q : Type 0} (r : Result T E) → OnOk r P → (P → Q) → OnOk r Q
ok_so (Ok x) h f = f h
ok_so (Err error) h f = tt

-- what waited was written, and then the line
pub passed_both : (old mid new : Option (List ℕ)) (before line after : List ℕ) → mid ≡ append_known old before → new ≡ append_known mid line → after ≡ [] → PassesOn old new before line after
passed_both old mid new before line after first then none = (
  before ++ line,
  then ∙ ap (λ t. append_known t line) first ∙ append_known-twice old before line,
  sym (ap (λ a. (before ++ line) ++ a) none ∙ append-nil (before ++ line)),
)

pub err_so : {T E P : Type 0} (r : Result T E) → P → OnErr r P
err_so (Ok x) h = tt
err_so (Err error) h = h

-- ---- the end of the lines

-- what waited was written
carried_all : (from now : OnDesk) (lines all : List TraceLine) (waiting : List ℕ) (old mid new : Option (List ℕ)) → Carries from now lines waiting old mid → lines ≡ all → new ≡ append_known mid waiting
    → FromEach from (λ at. GotBody at all old new)
carried_all from now lines all waiting old mid new carries same is at S =
    let (gone, last, T, lead, got) = carries at S in (
      gone ++ waiting,
      last,
      subst (λ (l : List TraceLine). Lead 1 at l (gone ++ waiting) last) same lead,
      is ∙ ap (λ t. append_known t waiting) got ∙ append_known-twice old gone waiting,
    )

-- memory was wanting before the first line
pub carried_none : (from : OnDesk) (all : List TraceLine) (old new : Option (List ℕ)) (before after : ℕ) → new ≡ old → FromEach from (λ at. IsBroken at all from old new before after OutOfMemory)
carried_none from [] old new before after same at S = (0, [], at, (refl, refl), same ∙ sym (append_known-nil old), inl S)
carried_none from (line ∷ lines) old new before after same at S = (0, [], at, (refl, refl), same ∙ sym (append_known-nil old), inl S)

is_past : (now next : OnDesk) (all : List TraceLine) (place : ℕ) (line : TraceLine) (last : Moment) → slice_get all place ≡ Some line → IsDeskMoment now last → IsCutAt now next line → IsPast all place last next
is_past now next all place line last there S (inl same) = inl (subst (λ (k : OnDesk). IsDeskMoment k last) (sym same) S)
is_past now next all place line last there S (inr (reply, leads)) =
    let (after, T, answered) = leads last S in
    inr (rw there (reply, after, answered, T))

-- memory was wanting for the next line, and what waited was written
carried_some : (from now next : OnDesk) (all : List TraceLine) (place : ℕ) (line : TraceLine) (waiting : List ℕ) (old mid new : Option (List ℕ)) (before after : ℕ) → Carries from now (take place all) waiting old mid
    → slice_get all place ≡ Some line → IsCutAt now next line → new ≡ append_known mid waiting → FromEach from (λ at. IsBroken at all next old new before after OutOfMemory)
carried_some from now next all place line waiting old mid new before after carries there cut is at S =
    let (gone, last, T, lead, got) = carries at S in
    (place, gone ++ waiting, last, lead, is ∙ ap (λ t. append_known t waiting) got ∙ append_known-twice old gone waiting, is_past now next all place line last there T cut)

-- the write of what waited failed
carried_waiting : (from now next : OnDesk) (all : List TraceLine) (place : ℕ) (waiting : List ℕ) (old mid new : Option (List ℕ)) (before after : ℕ) (fault : Fault) → Carries from now (take place all) waiting old mid
    → AppendsFront mid new waiting → Rose before after → fault ≡ WriteFault → FromEach from (λ at. IsBroken at all next old new before after fault)
carried_waiting from now next all place waiting old mid new before after fault carries front rose is at S =
    let (gone, last, T, lead, got) = carries at S in
    subst (λ (f : Fault). IsBroken at all next old new before after f) (sym is)
    (rose, (place, gone ++ waiting, last, lead, front-after old mid new gone waiting got front))

-- a write failed as the next line came behind what waited
carried_front : (from now next : OnDesk) (all : List TraceLine) (place number : ℕ) (line : TraceLine) (cleared piece waiting : List ℕ) (old mid new : Option (List ℕ)) (before after : ℕ) (fault : Fault)
    → Carries from now (take place all) waiting old mid → number ≡ length (take place all) + 1 → cleared ≡ [] → take place all ++ line ∷ [] ≡ take (place + 1) all → PrintsLine now next number line cleared piece
    → AppendsFront mid new (waiting ++ piece) → Rose before after → fault ≡ WriteFault → FromEach from (λ at. IsBroken at all next old new before after fault)
carried_front from now next all place number line cleared piece waiting old mid new before after fault carries count empty more prints front rose is at S =
    let (gone, last, T, lead, got) = carries at S in
    let x = prints_more now next (take place all) number line cleared piece at (gone ++ waiting) last T lead count empty prints in
    let text : Lead 1 at (take (place + 1) all) (gone ++ (waiting ++ piece)) x.last =
    subst (λ (l : List TraceLine). Lead 1 at l (gone ++ (waiting ++ piece)) x.last) more
    (subst (λ (t : List ℕ). Lead 1 at (take place all ++ line ∷ []) t x.last) (append_assoc gone waiting piece) x.lead) in
    subst (λ (f : Fault). IsBroken at all next old new before after f) (sym is)
    (rose, (place + 1, gone ++ (waiting ++ piece), x.last, text, front-after old mid new gone (waiting ++ piece) got front))

-- ---- the calls

rose_later : (before mid after : ℕ) → before ≤ mid → Rose mid after → Rose before after
rose_later before mid after later rose = grind arith

pub rose_before : (before mid after : ℕ) → mid ≤ after → Rose before mid → Rose before after
rose_before before mid after later rose = grind arith

-- the lines before that place are written, or wait
module _ (from now : OnDesk) (all : List TraceLine) (place : ℕ) (waiting : List ℕ) (old mid new : Option (List ℕ)) (carries : Carries from now (take place all) waiting old mid) where
  -- they were all, and what waited was to be written
  pub all_written : length all ≤ place → (r : Result (Unit {0}) Fault) → OnOk r (new ≡ append_known mid waiting) → OnOk r (FromEach from (λ at. GotBody at all old new))
  all_written past r whole = ok_so r whole (carried_all from now (take place all) all waiting old mid new carries (take_all place all past))

  pub waiting_broken : (next : OnDesk) (before between after : ℕ) → before ≤ between → AppendsFront mid new waiting → (r : Result (Unit {0}) Fault) → IfErr r (λ fault. (fault ≡ WriteFault) × Rose between after)
      → IfErr r (λ fault. FromEach from (λ at. IsBroken at all next old new before after fault))
  waiting_broken next before between after later front r fails =
      err_then (λ (fault : Fault). (fault ≡ WriteFault) × Rose between after) _ r fails
      (λ fault is. carried_waiting from now next all place waiting old mid new before after fault carries front (rose_later before between after later is.1) is.0)

  -- the line at that place
  module _ (next : OnDesk) (line : TraceLine) (below : place < length all) (its : line ≡ get_or all place line) where
    pub line_cut : IsCutAt now next line → new ≡ append_known mid waiting → (before after : ℕ) → FromEach from (λ at. IsBroken at all next old new before after OutOfMemory)
    line_cut cut whole before after = carried_some from now next all place line waiting old mid new before after carries (slice_get_read all (length all) place line refl below its) cut whole

    module _ (cleared piece : List ℕ) (empty : cleared ≡ []) (prints : PrintsLine now next (place + 1) line cleared piece) where
      count : place + 1 ≡ length (take place all) + 1
      count = omega (arith, length-take place all)

      pub line_broken : (before between after : ℕ) → before ≤ between → AppendsFront mid new (waiting ++ piece) → (r : Result (Unit {0}) Fault) → IfErr r (λ fault. (fault ≡ WriteFault) × Rose between after)
          → IfErr r (λ fault. FromEach from (λ at. IsBroken at all next old new before after fault))
      line_broken before between after later front r fails =
          err_then (λ (fault : Fault). (fault ≡ WriteFault) × Rose between after) _ r fails
          (λ fault is. carried_front from now next all place (place + 1) line cleared piece waiting old mid new before after fault carries count empty (next_line all place line below its) prints front (rose_later before between after later is.1) is.0)

      pub line_carried : (rest : List ℕ) → PassesOn mid new waiting piece rest → Carries from next (take (place + 1) all) rest old new
      line_carried rest passes =
          subst (λ (lines : List TraceLine). Carries from next lines rest old new) (next_line all place line below its)
          (carries_more from now next (take place all) (place + 1) line cleared piece waiting rest old mid new carries count empty prints passes)

-- ---- the whole trace

-- no line was written
pub none_got : (units : ℕ) (lines : List TraceLine) (old new : Option (List ℕ)) → new ≡ old → GotLines (Trace units lines) old new
none_got units [] old new same = (0, [], (0, beginning 0 units, (refl, refl)), same ∙ sym (append_known-nil old))
none_got units (line ∷ lines) old new same = (0, [], (0, beginning 0 units, (refl, refl)), same ∙ sym (append_known-nil old))

pub got_trace : (key units : ℕ) (lines : List TraceLine) (old mid new : Option (List ℕ)) → GotBody (beginning key units) lines old mid → new ≡ append_known mid (codes "end\n") → GotTrace (Trace units lines) old new
got_trace key units lines old mid new (body, last, lead, got) is =
    (body ++ codes "end\n", (key, body, last, lead, refl), is ∙ ap (λ t. append_known t (codes "end\n")) got ∙ append_known-twice old body (codes "end\n"))

-- the write of the end failed
pub end_broken : (key units : ℕ) (lines : List TraceLine) (old mid new : Option (List ℕ)) (before between after : ℕ) (fault : Fault) → GotBody (beginning key units) lines old mid → AppendsFront mid new (codes "end\n")
    → before ≤ between → Rose between after → fault ≡ WriteFault → IsStopped (Trace units lines) old new before after fault
end_broken key units lines old mid new before between after fault (body, last, lead, got) front later rose is =
    subst (λ (f : Fault). IsStopped (Trace units lines) old new before after f) (sym is)
    (rose_later before between after later rose, (body ++ codes "end\n", inl (key, body, last, lead, refl), front-after old mid new body (codes "end\n") got front))

-- the lines broke off
front_written : (key units : ℕ) (lines : List TraceLine) (old new : Option (List ℕ)) → (count : ℕ) × (text : List ℕ) × (last : Moment) × Lead 1 (beginning key units) (take count lines) text last × AppendsFront old new text → GotFront (Trace units lines) old new
front_written key units lines old new x = (x.1, inr (x.0, (key, x.2, x.3)), x.4)

pub lines_broken : (key units : ℕ) (lines : List TraceLine) (kept : OnDesk) (old new : Option (List ℕ)) (before after : ℕ) (fault : Fault) → IsBroken (beginning key units) lines kept old new before after fault → IsStopped (Trace units lines) old new before after fault
lines_broken key units lines kept old new before after WriteFault (rose, rest) = (rose, front_written key units lines old new rest)
lines_broken key units lines kept old new before after OutOfMemory (count, text, last, lead, got, past) = (count, text, (key, last, lead), got)
lines_broken key units lines kept old new before after _ broken = absurd broken
