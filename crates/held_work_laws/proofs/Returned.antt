-- A work that is held and did its step may be brought back, in each world that has it out.
use Rattle.std.proofs.Common.{◌≡◌, ℕ, false, Bool, List, [], Some, refl, sym, ◌∙◌, ap, subst}
use Rattle.std.specs.Prelude.{IsSomeAnd}
use Rattle.omx_types.specs.declared.handle.Handle.{Handle}
use Rattle.part_api.specs.Terms.{Terms}
use Rattle.il_machine.specs.World.{World}
use Rattle.il_machine.specs.Answers.{component_named}
use Rattle.il_machine.specs.Look.{Look, look}
use Rattle.il_machine.specs.Finishing.{Finish}
use Rattle.il_machine.specs.Whole.{HasDone, Kept, PartSeen, Stands, StepsWhere}
use Rattle.machine_laws.proofs.Finding.{either}
use Rattle.graph_core.specs.Finishing.{AreHandedBack}
use Rattle.il_flow.specs.Places.{carried_from}
use Rattle.il_flow.specs.Works.{ComesBack, DoneOf, seen_done}
use Rattle.il_flow.proofs.Sameness.{known_same}
use Rattle.il_graph.specs.Finishing.{IsItsOwn, Returns}
use Rattle.il_graph.proofs.Returning.{own_held, returns_stepped, returns_told}
use Rattle.held_work_laws.specs.Works.{HeldWork, seen_of, IsHeld, IsBroughtBack, IsOutSomewhere, IsRun}
use Rattle.held_work_laws.proofs.Taken.{some_and}

module _ {P : Type 0} (x : HeldWork) (d : DoneOf P) (t : Terms) (failed : Bool) (p : PartSeen) (R : IsRun x d t failed p) where
  number_is : (d.component).generation ≡ x.handle.generation
  number_is = ap (λ (h : Handle). h.generation) R.component

  may_return : (w : World) → IsHeld w x → (took : List ℕ) × Returns w (seen_done took d) p
  may_return w H =
      let s = H.stream in
      let seen = seen_of H.terms x in
      either x.announces
      (λ a. ([], returns_told w seen s H.out (seen_done [] d) p number_is a (R.told a) (subst (HasDone H.terms false s) (sym (R.still a)) H.gone)))
      (λ n.
      let y = subst (λ (u : Terms). ComesBack u (carried_from 0 x.headers) x.part (d.component).generation d.frames d.fault (carried_from 0 d.headers) p) (H.set_so n) (R.stepped n) s H.gone in
      (y.0, returns_stepped w seen s H.out (seen_done y.0 d) p number_is n y.1 y.2))

  pub brought_back : (old new : Kept) → ((took : List ℕ) → StepsWhere old new (λ w. Returns w (seen_done took d) p) (λ w v. Finish w (seen_done took d) v)) → IsBroughtBack old new x d.frames d.fault
  brought_back old new steps w S H =
      let M = may_return w H in
      let y = steps M.0 w S M.1 in
      (y.0, y.1, record { done = seen_done M.0 d; component = number_is; frames_are = refl; fault_is = refl; meets = (M.1).0; step = y.2 })

  module _ (k : Kept) (U : IsOutSomewhere k x) where
    pub comes : (w : World) × (took : List ℕ) × (Stands k w × Returns w (seen_done took d) p)
    comes = let M = may_return U.world U.held in (U.world, M.0, (U.stands, M.1))

    pub its_own : IsSomeAnd (component_named d.component (k.looks).components) (λ c. IsItsOwn c d.announces d.fault t failed)
    its_own =
        let H = U.held in
        let c = (H.out).component in
        let looks : (k.looks).components ≡ (U.world).components = sym (ap (λ (l : Look). l.components) (U.stands).looks) in
        let there : component_named d.component (k.looks).components ≡ Some c = ap (λ (g : Handle). component_named g (k.looks).components) R.component ∙ (ap (component_named x.handle) looks ∙ U.named) in
        some_and (component_named d.component (k.looks).components) (λ c. IsItsOwn c d.announces d.fault t failed) c there
        (own_held U.world (seen_of H.terms x) H.stream H.out U.sound x.handle c U.named refl d.announces d.fault t failed (sym R.announces) (ap (λ (u : Terms). u.kind) R.terms ∙ H.kind) (ap (λ (u : Terms). u.file) R.terms ∙ H.file)
        (R.so_failed H.unfailed))

    pub handed_back : AreHandedBack d.headers (k.looks)
    handed_back =
        let l = look U.world in
        subst (AreHandedBack d.headers) (U.stands).looks (known_same l.key l.headers.header 0 x.headers d.headers R.headers (U.held).headers)
