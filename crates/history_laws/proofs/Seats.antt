-- The component of a number that a handle names is named by it in the next world too, where there is one of that number still.
use Rattle.std.proofs.Common.{◌≡◌, ◌⊎◌, inl, inr, ℕ, true, false, ◌<◌, ◌∙◌, sym, ap, subst, refl, List, [], ◌∷◌, ◌++◌, All, Option, Some, None, MatchOption, Ok, arith}
use Rattle.omx_types.specs.declared.error.OmxError.{OmxError}
use Rattle.omx_types.specs.declared.handle.Handle.{Handle}
use Rattle.il_machine.specs.World.{Component, World, component_numbered, fresh}
use Rattle.il_machine.specs.Look.{look}
use Rattle.il_machine.specs.Answers.{AnswersOrMemory, component_named}
use Rattle.il_machine.specs.Kinds.{kind_of}
use Rattle.omx_types.specs.declared.kind.Kind.{Kind}
use Rattle.il_machine.specs.Components.{get_handle_refusal, is_vacant, with_new_component}
use Rattle.il_machine.specs.Commands.{run_front}
use Rattle.il_machine.specs.Due.{ClosesTo, arrived}
use Rattle.il_machine.specs.Acts.{Act, Reply}
use Rattle.il_machine.specs.Acts as acts
use Rattle.il_machine.specs.Run.{Meets, Step}
use Rattle.il_machine.specs.Sound.{Sound}
use Rattle.machine_laws.proofs.Every.{at_place, at_push, from_places}
use Rattle.machine_laws.proofs.Granting.{preempted_by}
use Rattle.machine_laws.proofs.Keys.{there_is}
use Rattle.machine_laws.proofs.Steps.{sound_step}
use Rattle.history_laws.specs.Given.{is_freed_by}
use Rattle.history_laws.proofs.Calm.{arrived_keeps, front_keeps}
use Rattle.history_laws.proofs.Cores.{Core, IsLasting, NoneGot, closes_each, core, outcome_each}
use Rattle.history_laws.proofs.HeldOut.{placed_in}
use Rattle.history_laws.proofs.Named.{is_named, named, named_number, named_there}
use Rattle.history_laws.proofs.Steps.{step_comes}
use Rattle.history_laws.proofs.Naming.{named_below, named_one, named_place, own_named}
use Rattle.history_laws.proofs.Remaining.{number_stays}

-- one of the handle's number has the handle
abbrev HasIt : Handle → Core → Type 0
HasIt h k = k.handle.generation ≡ h.generation → k.handle ≡ h

with_handle : (h : Handle) (c d : Component) → d.handle ≡ c.handle → HasIt h (core c) → HasIt h (core d)
with_handle h c d e k g = e ∙ k (sym (ap (λ (x : Handle). x.generation) e) ∙ g)

handle_lasts : (h : Handle) → IsLasting (HasIt h)
handle_lasts h = record {
  arrives = λ number p c e k. with_handle h c (arrived number p c) (arrived_keeps number p.target p c refl).handle k;
  runs = λ l commands c k. with_handle h c (run_front l commands c) (front_keeps l commands c).handle k;
  drops = λ c k. k;
  ends = λ c k. k;
  grants = λ c t k. k;
  loses = λ c t k. preempted_by (λ d. HasIt h (core d)) c (λ f. k) (λ t g. k) (λ t g. k);
  returns = λ c k. k;
}

abbrev HaveIt : Handle → List Component → Type 0
HaveIt h cs = All (λ (c : Component). HasIt h (core c)) cs

have_it : (w : World) (h : Handle) (c : Component) → Sound w → component_named h w.components ≡ Some c → HaveIt h w.components
have_it w h c S e = from_places (λ (d : Component). HasIt h (core d)) w.components (λ i d at g. named_one w d.handle h d c S (own_named w i d S at) e g)

-- ---- a component that comes

none_got : (a : Act) (r : Reply) → NoneGot a r ⊎ ((name : List ℕ) × (k : Handle) × (a ≡ acts.GetHandle name) × (r ≡ acts.Got (Ok k)))
none_got (acts.GetHandle name) (acts.Got (Ok k)) = inr (name, k, refl, refl)
none_got _ _ = inl tt

pub got : (o : Option OmxError) (name : List ℕ) (w : World) (k : Handle) (v : World)
    → AnswersOrMemory o (Ok k) w v (λ k. (k.generation ≡ w.numbered) × (is_vacant k.slot w.components ≡ true) × MatchOption (kind_of name) ⊥ (λ kind. ClosesTo (with_new_component k kind w) v))
    → (k.generation ≡ w.numbered) × ((kind : Kind) × ClosesTo (with_new_component k kind w) v)
got (Some e) name w k v a = absurd cc
got None name w k v a = let x = there_is (kind_of name) _ a.2 in (a.0, (x.0, x.2))

have_pushed : (h k : Handle) (kind : Kind) (w : World) → h.generation < w.numbered → k.generation ≡ w.numbered → HaveIt h w.components → HaveIt h (w.components ++ fresh k kind ∷ [])
have_pushed h k kind w l n A = from_places (λ (d : Component). HasIt h (core d)) (w.components ++ fresh k kind ∷ []) (λ j d at. elim (at_push w.components j (fresh k kind) d at) [
  | inl old ↦ at_place (λ (x : Component). HasIt h (core x)) w.components j d A old
  | inr new ↦ subst (λ (x : Component). HasIt h (core x)) (sym new) (λ g. absurd (omega (arith, l, n, g)))
])

have_got : (w : World) (name : List ℕ) (k : Handle) (v : World) (h : Handle) → Step w (acts.GetHandle name) (acts.Got (Ok k)) v → h.generation < w.numbered → HaveIt h w.components → HaveIt h v.components
have_got w name k v h s l A =
    let x = got (get_handle_refusal (look w) name) name w k v s in
    closes_each (HasIt h) (handle_lasts h) (with_new_component k x.1.0 w) v x.1.1 (have_pushed h k x.1.0 w l x.0 A)

have_still : (w : World) (a : Act) (r : Reply) (v : World) (h : Handle) → Sound w → Meets w a → Step w a r v → h.generation < w.numbered → HaveIt h w.components → HaveIt h v.components
have_still w a r v h S M s l A = elim (none_got a r) [
  | inl n ↦ outcome_each (HasIt h) (handle_lasts h) w a r v S (inl n) (λ k x c work e f number p. p) (inr (λ c p. p)) (step_comes w a r v S M s) A
  | inr (name, k, e, f) ↦ have_got w name k v h (subst (λ (x : Act × Reply). Step w x.0 x.1 v) (λ i. (e i, f i)) s) l A
]

-- ---- the handle

pub handle_stays : (w : World) (a : Act) (r : Reply) (v : World) (h : Handle) (c d : Component) → Sound w → Meets w a → Step w a r v → component_named h w.components ≡ Some c → component_numbered h.generation v ≡ Some d
    → component_named h v.components ≡ Some d
handle_stays w a r v h c d S M s e f =
    let A = have_still w a r v h S M s (named_below w h c S e) (have_it w h c S e) in
    let there = sym (is_named h.generation v) ∙ f in
    let i = placed_in h.generation v.components d there in
    let is : d.handle ≡ h = at_place (λ (x : Component). HasIt h (core x)) v.components i.0 d A i.1 (named_number h.generation v.components d there) in
    subst (λ (k : Handle). component_named k v.components ≡ Some d) is (own_named v i.0 d (sound_step w v a r M s S) i.1)

-- a handle names its component as long as that isn't freed
pub handle_lives : (w : World) (a : Act) (r : Reply) (v : World) (h : Handle) (c : Component) → Sound w → Meets w a → Step w a r v → is_freed_by h.generation a r ≡ false → component_named h w.components ≡ Some c
    → (d : Component) × (component_named h v.components ≡ Some d)
handle_lives w a r v h c S M s f e =
    let p = named_place h w.components c e in
    let there : named h.generation w.components ≡ Some c = subst (λ (n : ℕ). named n w.components ≡ Some c) (ap (λ (k : Handle). k.generation) p.2) (named_there 0 w.numbered p.0 w.components c S.rising p.1) in
    let x = number_stays w a r v h.generation c S M s f (is_named h.generation w ∙ there) in
    (x.0, handle_stays w a r v h c x.0 S M s e x.1)
