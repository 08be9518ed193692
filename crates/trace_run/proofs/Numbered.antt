-- A component that is made has the next number, and one more is numbered then.
use Rattle.std.proofs.Common.{◌≡◌, ℕ, ◌+◌, true, List, Option, Some, None, MatchOption, Ok}
use Rattle.omx_types.specs.declared.error.OmxError.{OmxError}
use Rattle.omx_types.specs.declared.handle.Handle.{Handle}
use Rattle.omx_types.specs.declared.kind.Kind.{Kind}
use Rattle.il_machine.specs.World.{World}
use Rattle.machine_laws.proofs.Keys.{there_is}
use Rattle.il_machine.specs.Look.{look}
use Rattle.il_machine.specs.Due.{ClosesTo}
use Rattle.il_machine.specs.Kinds.{kind_of}
use Rattle.il_machine.specs.Components.{GetHandle, get_handle_refusal, is_vacant, with_new_component}
use Rattle.il_machine.specs.Answers.{AnswersOrMemory}
use Rattle.history_laws.proofs.Numbered.{closing_same}

pub record IsNumbered (w : World) (h : Handle) (v : World) : Type 0 where
  pub number : h.generation ≡ w.numbered
  pub next : v.numbered ≡ w.numbered + 1
  pub kind : Kind
  pub closes : ClosesTo (with_new_component h kind w) v

got : (o : Option OmxError) (name : List ℕ) (w : World) (h : Handle) (v : World) → AnswersOrMemory o (Ok h) w v (λ h. (h.generation ≡ w.numbered) × (is_vacant h.slot w.components ≡ true)
    × MatchOption (kind_of name) ⊥ (λ kind. ClosesTo (with_new_component h kind w) v)) → IsNumbered w h v
got (Some error) name w h v a = absurd cc
got None name w h v a =
    let k = there_is (kind_of name) _ a.2 in
    record { number = a.0; next = closing_same (with_new_component h k.0 w) v k.2; kind = k.0; closes = k.2 }

pub numbered_get : (w : World) (name : List ℕ) (h : Handle) (v : World) → GetHandle w name (Ok h) v → IsNumbered w h v
numbered_get w name h v a = got (get_handle_refusal (look w) name) name w h v a
