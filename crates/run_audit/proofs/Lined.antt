-- A whole line: it passes each test, or stops at one.
use Rattle.std.proofs.Common.{◌≡◌, inl, inr, ℕ, zero, suc, Bool, true, false, IsTrue, List, refl, sym, ◌∙◌, subst}
use Rattle.omx_types.specs.declared.fault.AuditWhy.{AuditWhy}
use Rattle.omx_types.specs.declared.fault.AuditWhy.TheVariants.{BadLine, OtherAct, NotOut, OtherReply, OtherFile, NotEnded}
use Rattle.il_machine.specs.declared.answer.Progress.{Progress}
use Rattle.il_machine.specs.World.{World, stream_of}
use Rattle.act_text.specs.declared.act.TextAct.{TextAct}
use Rattle.act_text.specs.declared.act.TextAct.TheVariants as lines
use Rattle.play_forms.specs.Plans.{PlanValue}
use Rattle.play_log.specs.Lines.{LogLine}
use Rattle.compared_files.specs.Comparing.{ComparingValue}
use Rattle.graph_acts.specs.Plain.{Sight}
use Rattle.graph_acts.proofs.Worlds.{match_map}
use Rattle.audit_lines.specs.Lines.{IsOfPlay}
use Rattle.audit_order.specs.declared.ends.LinkEnds.{LinkEnds}
use Rattle.audit_order.specs.Asked.{change_act, is_asked}
use Rattle.audit_order.specs.Steps.{Admits, OrderValue}
use Rattle.audit_forms.specs.Audited.{Case, ComesNext, IsNext, IsWrittenIn, Moment, after}
use Rattle.audit_forms.specs.Passing.{PassesLine, StopsAt}
use Rattle.run_audit.specs.declared.replay.Passed.TheVariants.{On, Stop}
use Rattle.run_audit.specs.declared.replay.Replay.{Replay}
use Rattle.run_audit.specs.Leading.{IsPassed, MayCome}
use Rattle.run_audit.specs.Replaying.{AreFronts}

-- ---- which lines may come

change_may : (x : LinkEnds) (n : ℕ) → MayCome (change_act x n)
change_may x zero = inl tt
change_may x (suc zero) = inl tt
change_may x (suc (suc zero)) = inr tt
change_may x (suc (suc (suc zero))) = inl tt
change_may x (suc (suc (suc (suc zero)))) = inl tt
change_may x (suc (suc (suc (suc (suc zero))))) = inr tt
change_may x (suc (suc (suc (suc (suc (suc zero)))))) = inl tt
change_may x (suc (suc (suc (suc (suc (suc (suc n))))))) = inl tt

unasked_may : (t : TextAct) → is_asked t ≡ false → MayCome t
unasked_may (lines.Run component) e = inl tt
unasked_may (lines.Supply port) e = inl tt
unasked_may (lines.Release port) e = inl tt
unasked_may (lines.Over port) e = inl tt
unasked_may (lines.Back port) e = inl tt
unasked_may (lines.Claim component) e = tt
unasked_may (lines.Finish component) e = tt
unasked_may (lines.Take component) e = tt
unasked_may (lines.End component) e = tt
unasked_may t e = let no : true ≡ false = e in absurd cc

pub next_may : (plan : PlanValue) (told : List Progress) (order : OrderValue) (t : TextAct) (next : OrderValue) → ComesNext plan told order t next → MayCome t
next_may plan told order t next (inl H) = unasked_may t H.0
next_may plan told order t next (inr H) = elim H.1 [
  | inl s ↦ subst MayCome (sym s.is) (inl tt)
  | inr k ↦ elim k [
    | inl c ↦ subst MayCome (sym c.is) (change_may c.ends (c.change).made)
    | inr m ↦ elim m [
      | inl b ↦ subst MayCome (sym (b.may).is) (change_may (b.may).ends 0)
      | inr s ↦ subst MayCome (sym s.is) (inl tt)
    ]
  ]
]

-- an act that is asked for comes next where the order admits it
pub none_next : (plan : PlanValue) (told : List Progress) (order : OrderValue) (t : TextAct) → is_asked t ≡ true → ((next : OrderValue) → Admits plan told order t next → ⊥) → (next : OrderValue) → ComesNext plan told order t next → ⊥
none_next plan told order t e n next (inl H) = let no : true ≡ false = sym e ∙ H.0 in cc
none_next plan told order t e n next (inr H) = n next H.1

-- ---- what is written

pub written_so : (x : Case) (v : World) → AreFronts x.sinks v → IsWrittenIn x v
written_so x v F place text e = match_map (stream_of place v) _ _ (λ s h. h.1) (F place text e)

module _ (x : Case) (number : ℕ) (at : Moment) (piece : List ℕ) (line : LogLine) (of_play : IsOfPlay number piece line) where
  pub not_allowed : ((next : OrderValue) → IsNext x at (line.said).act next → ⊥) → StopsAt x number at piece OtherAct
  not_allowed n = inr (line, of_play, inl (n, refl))

module _ {S C : Type 0} (see : Sight S (ComparingValue S) C) (tells : Bool) where
  module _ (told : IsTrue tells) (x : Case) (number : ℕ) (at : Moment) (piece : List ℕ) (line : LogLine) (of_play : IsOfPlay number piece line) (next : OrderValue) (allowed : IsNext x at (line.said).act next) where
    pub stops_here : (new : Replay S C) (why : AuditWhy) → IsPassed see tells new x at line (Stop why) → StopsAt x number at piece why
    stops_here new NotOut p = inr (line, of_play, inr (next, allowed, inl (p, refl)))
    stops_here new OtherReply p = inr (line, of_play, inr (next, allowed, inr (p.0, inl (p.1, refl))))
    stops_here new OtherFile p = inr (line, of_play, inr (next, allowed, inr (p.0, inr (p.1.0, p.1.1, inl (p.1.2 told, refl)))))
    stops_here new BadLine p = absurd p
    stops_here new OtherAct p = absurd p
    stops_here new NotEnded p = absurd p

  pub passes_here : (x : Case) (number : ℕ) (at : Moment) (piece : List ℕ) (line : LogLine) → IsOfPlay number piece line → (next : OrderValue) → IsNext x at (line.said).act next
      → (new : Replay S C) (p : IsPassed see tells new x at line On) → PassesLine x number at piece (after at line x next p.1.0)
  passes_here x number at piece line of_play next allowed new p = record {
    line = line;
    of_play = of_play;
    order = next;
    allowed = allowed;
    there = p.0;
    world = p.1.0;
    answered = p.1.1;
    written = written_so x p.1.0 p.1.3;
    next_is = refl;
  }

pub not_of_play : (x : Case) (number : ℕ) (at : Moment) (piece : List ℕ) → ((line : LogLine) → IsOfPlay number piece line → ⊥) → StopsAt x number at piece BadLine
not_of_play x number at piece n = inl (n, refl)
