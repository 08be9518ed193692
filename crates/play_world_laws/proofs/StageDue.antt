-- A component's transition is due exactly where the model has it so, but for the second Idle.
use Rattle.std.proofs.Common.{◌≡◌, ◌≢◌, ℕ, zero, suc, ◌<◌, ◌≤◌, Bool, true, false, not, ◌&&◌, ◌||◌, slice_get, Some, refl, sym, ◌∙◌, eqb-true, eq-eqb, arith}
use Rattle.il_machine.specs.declared.port.Port.{Port}
use Rattle.il_machine.specs.Due.{each_port, is_due_to}
use Rattle.il_machine.specs.Headers.{seen}
use Rattle.il_machine.specs.Ports.{has_no_header, is_populated}
use Rattle.il_machine.specs.World.{Component, World, ports_of}
use Rattle.machine_laws.proofs.Every.{all_pass}
use Rattle.play_model.specs.Progress.{IsLinkOf}
use Rattle.play_model.specs.Play.{IsDue, Play, made}
use Rattle.play_world_laws.specs.Cast.{components_of, script_place}
use Rattle.play_world_laws.specs.Standing.{before, target}
use Rattle.play_world_laws.specs.Wiring.{link_to}
use Rattle.play_world_laws.proofs.Arrivals.{populated_test, unmade_by}
use Rattle.play_world_laws.proofs.Resting.{all_true}
use Rattle.play_world_laws.proofs.Supplying.{populated_by}
use Rattle.play_world_laws.specs.PlayWorlds.{IsActorAt, IsPlayWorld, PlayCast, end_of_link, port_number}
use Rattle.play_world_laws.proofs.CalmHappenings.{at_link, its_end, its_port, link_at}

all_one : (b : Bool) → (b && true) ≡ true → b ≡ true
all_one true e = refl
all_one false e = absurd cc

module _ (x : PlayCast) (recent : ℕ) (p : Play) (w : World) (W : IsPlayWorld x recent p w) (n : p.phase ≢ 2) (c : ℕ) (a : Component) (m : c < components_of x.cast) (e : slice_get w.components (script_place x.cast c) ≡ Some a) (A : IsActorAt x recent p w c a) where
  abbrev count : ℕ → ℕ
  count = (((x.cast).layout).network).count

  -- an enabled port that isn't populated keeps a component from Idle
  abbrev populates : Port → Bool
  populates q = not q.state.enabled || is_populated (seen w.headers) q

  all_populated : each_port a populates ≡ true → (l : ℕ) → IsLinkOf ((x.cast).layout).network c l → made p l ≡ count l
  all_populated t l L =
      let r = at_link x c l L in
      let E = its_end x recent p w W n c a m e A l r.0 r.1 r.2 in
      let one = all_pass populates (ports_of a) (port_number x.cast r.0 l) E.port t E.there in
      eqb-true _ _ (sym (populated_by (seen w.headers) E.port (end_of_link x.cast r.0 l) (made p l) (count l) (E.end).key (E.end).count (E.end).many)
      ∙ (sym (populated_test (seen w.headers) E.port (link_to x.cast l (end_of_link x.cast (not r.0) l)) (E.end).state) ∙ one))

  populated_all : ((l : ℕ) → IsLinkOf ((x.cast).layout).network c l → made p l ≡ count l) → each_port a populates ≡ true
  populated_all h = all_true populates (ports_of a) (λ i q f.
      let P = its_port x recent p w W n c a m e A i q f in
      populated_test (seen w.headers) q (link_to x.cast P.link (end_of_link x.cast (not P.side) P.link)) (P.end).state
      ∙ (populated_by (seen w.headers) q (end_of_link x.cast P.side P.link) (made p P.link) (count P.link) (P.end).key (P.end).count (P.end).many ∙ eq-eqb (made p P.link) (count P.link) (h P.link (link_at x c P.link P.side P.below P.of_link))))

  all_unmade : each_port a (has_no_header (seen w.headers)) ≡ true → (l : ℕ) → IsLinkOf ((x.cast).layout).network c l → made p l ≡ 0
  all_unmade t l L =
      let r = at_link x c l L in
      let E = its_end x recent p w W n c a m e A l r.0 r.1 r.2 in
      let one = all_pass (has_no_header (seen w.headers)) (ports_of a) (port_number x.cast r.0 l) E.port t E.there in
      eqb-true _ _ (sym (unmade_by (seen w.headers) E.port (end_of_link x.cast r.0 l) (made p l) (E.end).key (E.end).many) ∙ one)

  unmade_all : ((l : ℕ) → IsLinkOf ((x.cast).layout).network c l → made p l ≡ 0) → each_port a (has_no_header (seen w.headers)) ≡ true
  unmade_all h = all_true (has_no_header (seen w.headers)) (ports_of a) (λ i q f.
      let P = its_port x recent p w W n c a m e A i q f in
      unmade_by (seen w.headers) q (end_of_link x.cast P.side P.link) (made p P.link) (P.end).key (P.end).many ∙ eq-eqb (made p P.link) 0 (h P.link (link_at x c P.link P.side P.below P.of_link)))

  calm_due : (phase : ℕ) → p.phase ≡ phase → phase ≢ 2 → phase ≢ 3 → a.state ≡ before phase → is_due_to (seen w.headers) a (target phase) ≡ true → IsDue (x.cast).layout p c
  calm_due zero h i k s t = record { up = λ y. absurd (omega arith); down = λ y. absurd (omega arith); unmade = λ y. absurd (omega arith) }
  calm_due (suc zero) h i k s t =
      let u = rw s at t in
      record { up = λ y. all_populated (all_one _ u); down = λ y. absurd (omega arith); unmade = λ y. absurd (omega arith) }
  calm_due (suc (suc zero)) h i k s t = absurd (i refl)
  calm_due (suc (suc (suc zero))) h i k s t = absurd (k refl)
  calm_due (suc (suc (suc (suc z)))) h i k s t = record { up = λ y. absurd (omega arith); down = λ y. absurd (omega arith); unmade = λ y. all_unmade (all_one _ t) }

  calm_so : (phase : ℕ) → p.phase ≡ phase → 1 ≤ phase → phase ≤ 4 → phase ≢ 2 → phase ≢ 3 → a.state ≡ before phase → IsDue (x.cast).layout p c → is_due_to (seen w.headers) a (target phase) ≡ true
  calm_so zero h i j k l s D = absurd (omega arith)
  calm_so (suc zero) h i j k l s D = let t = populated_all (D.up h) in rw (s, t) refl
  calm_so (suc (suc zero)) h i j k l s D = absurd (k refl)
  calm_so (suc (suc (suc zero))) h i j k l s D = absurd (l refl)
  calm_so (suc (suc (suc (suc zero)))) h i j k l s D = let t = unmade_all (D.unmade h) in rw t refl
  calm_so (suc (suc (suc (suc (suc z))))) h i j k l s D = absurd (omega arith)

  pub due_calm : p.phase ≢ 3 → a.state ≡ before p.phase → is_due_to (seen w.headers) a (target p.phase) ≡ true → IsDue (x.cast).layout p c
  due_calm k s t = calm_due p.phase refl n k s t

  pub so_calm : 1 ≤ p.phase → p.phase ≢ 3 → a.state ≡ before p.phase → IsDue (x.cast).layout p c → is_due_to (seen w.headers) a (target p.phase) ≡ true
  so_calm i k s D = calm_so p.phase refl i (W.reached).phase n k s D

-- on the way to Executing all is due at once
pub due_up : (x : PlayCast) (p : Play) (c : ℕ) → p.phase ≡ 2 → IsDue (x.cast).layout p c
due_up x p c h = record { up = λ y. absurd (omega arith); down = λ y. absurd (omega arith); unmade = λ y. absurd (omega arith) }
