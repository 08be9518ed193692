-- What a sink got of a text, and what it is still due.
use Rattle.std.proofs.Common.{◌≡◌, ◌≢◌, ◌≤◌, ◌+◌, ◌-◌, ◌^◌, ℕ, List, [], ◌∷◌, ◌++◌, take, refl, append_assoc, ap, subst, ◌∙◌, sym, arith, length, length-append}
use Rattle.std.specs.Prelude.{Option, Some, None, Result, Ok, Err, OnOk, IfErr, min}
use Rattle.std.proofs.lemmas.List.{take-append-le}
use Rattle.std.proofs.Math.Seq.{take-append-add}
use Rattle.std.specs.Io.KnownBytes.{append_known}
use Rattle.line_text.specs.Lines.{lines_of}
use Rattle.line_text.specs.Words.{words_of}
use Rattle.omx_types.specs.declared.fault.Fault.{Fault}
use Rattle.omx_types.specs.declared.fault.Fault.TheVariants.{WriteFault}
use Rattle.omx_types.specs.declared.fault.Fault.TheVariants as faults
use Rattle.outside_io.proofs.Known.{append_known-twice, append_known-nil}
use Rattle.outside_io.specs.Moves.{AppendsFront}
use Rattle.clock_core.specs.Clock.{State, after_call}
use Rattle.clock_core.specs.Printed.{call_text, calls_in, printed}
use Rattle.clock_core.specs.Running.{AddsCall, IsRun, IsWriteFault}
use Rattle.clock_core.specs.Script.{call_words}
use Rattle.clock_core.specs.declared.act.TimedAct.{TimedAct}

-- the text without the rest was written
pub record Sent (old now : Option (List ℕ)) (rest text : List ℕ) : Type 0 where
  pub done : List ℕ
  pub is : now ≡ append_known old done
  pub parted : done ++ rest ≡ text

-- one more piece
pub Sent-more : (old now next : Option (List ℕ)) (piece rest text : List ℕ) → Sent old now (piece ++ rest) text → next ≡ append_known now piece → Sent old next rest text
Sent-more old now next piece rest text sent more = record {
  done = sent.done ++ piece;
  is = more ∙ (ap (λ (known : Option (List ℕ)). append_known known piece) sent.is ∙ append_known-twice old sent.done piece);
  parted = append_assoc sent.done piece rest ∙ sent.parted;
}

-- a front of what is due
pub Sent-front : (old now next : Option (List ℕ)) (rest text : List ℕ) → Sent old now rest text → AppendsFront now next rest → AppendsFront old next text
Sent-front old now next rest text sent (k, small, is) = (
  length sent.done + k,
  bound,
  is ∙ (ap (λ (known : Option (List ℕ)). append_known known (take k rest)) sent.is ∙ (append_known-twice old sent.done (take k rest) ∙ ap (append_known old) front)),
)
  where
    bound : length sent.done + k ≤ length text
    bound = omega (arith, small, length-append sent.done rest, ap length sent.parted)

    front : sent.done ++ take k rest ≡ take (length sent.done + k) text
    front = sym (take-append-add sent.done rest k) ∙ ap (take (length sent.done + k)) sent.parted

-- a write that failed, after what was written before
pub failed-later : (fault : Fault) (before between after : ℕ) (old now next : Option (List ℕ)) (rest text : List ℕ) → Sent old now rest text → before ≤ between →
    IsWriteFault between after now next rest fault → IsWriteFault before after old next text fault
failed-later WriteFault before between after old now next rest text sent h failed = (rose failed.0, Sent-front old now next rest text sent failed.1)
  where
    rose : min (between + 1) (2 ^ 64 - 1) ≤ after → min (before + 1) (2 ^ 64 - 1) ≤ after
    rose r = omega (arith, r, h)
failed-later other before between after old now next rest text sent h failed = absurd failed

-- a front of a text is one of a longer text
pub failed-more : (fault : Fault) (before after : ℕ) (old next : Option (List ℕ)) (piece rest text : List ℕ) → piece ++ rest ≡ text →
    IsWriteFault before after old next piece fault → IsWriteFault before after old next text fault
failed-more WriteFault before after old next piece rest text whole (rose, (k, small, is)) = (rose, (k, bound, is ∙ ap (append_known old) front))
  where
    bound : k ≤ length text
    bound = omega (arith, small, length-append piece rest, ap length whole)

    front : take k piece ≡ take k text
    front = sym (take-append-le k piece rest small) ∙ ap (take k) whole
failed-more other before after old next piece rest text whole failed = absurd failed

-- ---- lines

-- the text of a line that asks for a call
pub printed-call : (number : ℕ) (state : State) (line : List ℕ) (call : TimedAct) (lines : List (List ℕ)) → AddsCall (words_of line) (Some call) → words_of line ≡ call_words call →
    call_text number state (call_words call) call ++ printed (number + 1) (after_call state call.wall call.act) (calls_in lines) ≡ printed number state (calls_in (line ∷ lines))
printed-call number state line call lines asked written =
    sym (ap (printed number state) (asked (calls_in lines))
    ∙ ap (λ (words : List (List ℕ)). call_text number state words call ++ printed (number + 1) (after_call state call.wall call.act) (calls_in lines)) written)

pub run-call : (number : ℕ) (state after : State) (line : List ℕ) (call : TimedAct) (old new : Option (List ℕ)) → AddsCall (words_of line) (Some call) → words_of line ≡ call_words call →
    after ≡ after_call state call.wall call.act → new ≡ append_known old (call_text number state (call_words call) call) → IsRun number state line (number + 1) after old new
run-call number state after line call old new asked written is told = record {
  piece = call_text number state (call_words call) call;
  told = told;
  adds = λ lines. ap (λ (s : State). call_text number state (call_words call) call ++ printed (number + 1) s (calls_in lines)) is ∙ printed-call number state line call lines asked written;
}

pub run-none : (number : ℕ) (state : State) (line : List ℕ) (old : Option (List ℕ)) → AddsCall (words_of line) None → IsRun number state line number state old old
run-none number state line old asked = record { piece = []; told = sym (append_known-nil old); adds = λ lines. ap (printed number state) (sym (asked (calls_in lines))) }

-- a line was run, and the lines behind it are due
pub Sent-line : (old now new : Option (List ℕ)) (number next : ℕ) (before after : State) (text line behind whole : List ℕ) → lines_of text ≡ line ∷ lines_of behind → IsRun number before line next after now new →
    Sent old now (printed number before (calls_in (lines_of text))) whole → Sent old new (printed next after (calls_in (lines_of behind))) whole
Sent-line old now new number next before after text line behind whole parted run sent =
    Sent-more old now new run.piece (printed next after (calls_in (lines_of behind))) whole
    (subst (λ (due : List ℕ). Sent old now due whole) (ap (λ (lines : List (List ℕ)). printed number before (calls_in lines)) parted ∙ sym (run.adds (lines_of behind))) sent)
    run.told

-- a line that wasn't written whole
pub failed-line : (fault : Fault) (before between after : ℕ) (old now next : Option (List ℕ)) (number : ℕ) (state : State) (text line behind whole : List ℕ) → lines_of text ≡ line ∷ lines_of behind →
    Sent old now (printed number state (calls_in (lines_of text))) whole → before ≤ between →
    ((lines : List (List ℕ)) → IsWriteFault between after now next (printed number state (calls_in (line ∷ lines))) fault) → IsWriteFault before after old next whole fault
failed-line fault before between after old now next number state text line behind whole parted sent later failed =
    failed-later fault before between after old now next (printed number state (calls_in (line ∷ lines_of behind))) whole
    (subst (λ (lines : List (List ℕ)). Sent old now (printed number state (calls_in lines)) whole) parted sent) later (failed (lines_of behind))

-- the end wasn't written whole
pub failed-end : (result : Result (Unit {0}) Fault) (before between after : ℕ) (old now next : Option (List ℕ)) (number : ℕ) (state : State) (text whole : List ℕ) → lines_of text ≡ [] →
    Sent old now (printed number state (calls_in (lines_of text))) whole → before ≤ between →
    IfErr result (IsWriteFault between after now next (printed number state [])) → IfErr result (IsWriteFault before after old next whole)
failed-end (Ok done) before between after old now next number state text whole none sent later failed = tt
failed-end (Err fault) before between after old now next number state text whole none sent later failed =
    failed-later fault before between after old now next (printed number state []) whole
    (subst (λ (lines : List (List ℕ)). Sent old now (printed number state (calls_in lines)) whole) none sent) later failed

-- a run that failed in no write lets the count stand
pub stands-unless : (result : Result (Unit {0}) Fault) (before now : ℕ) (old new : Option (List ℕ)) (text : List ℕ) → OnOk result (now ≡ before) → IfErr result (IsWriteFault before now old new text) → result ≢ Err WriteFault → now ≡ before
stands-unless (Ok done) before now old new text stands failed other = stands
stands-unless (Err WriteFault) before now old new text stands failed other = absurd (other refl)
stands-unless (Err (faults.Script line why)) before now old new text stands failed other = absurd failed
stands-unless (Err faults.Usage) before now old new text stands failed other = absurd failed
stands-unless (Err (faults.BadMedia which fault)) before now old new text stands failed other = absurd failed
stands-unless (Err faults.ReadFault) before now old new text stands failed other = absurd failed
stands-unless (Err (faults.Absent which)) before now old new text stands failed other = absurd failed
stands-unless (Err faults.OutOfMemory) before now old new text stands failed other = absurd failed
stands-unless (Err (faults.Short which at size)) before now old new text stands failed other = absurd failed
stands-unless (Err (faults.Units have need)) before now old new text stands failed other = absurd failed
stands-unless (Err (faults.Packets why)) before now old new text stands failed other = absurd failed
stands-unless (Err (faults.NotRun line why)) before now old new text stands failed other = absurd failed
