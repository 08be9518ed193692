-- Acts that tell no completion: what they do to the components and to the notes given.
use Rattle.std.proofs.Common.{◌≡◌, ◌≢◌, ◌⊎◌, inl, inr, ℕ, false, not, nat_eq, List, [], ◌∷◌, ◌++◌, set, remove, drop, slice_get, Some, None, refl, sym, ◌∙◌, ap, subst, append_assoc, eqb-true, eq-eqb, ne_eqb}
use Rattle.std.specs.Prelude.{map, filter}
use Rattle.std.proofs.lemmas.Bool.{eqb-false}
use Rattle.std.proofs.lemmas.List.{append-nil}
use Rattle.omx_types.specs.declared.state.State.TheVariants.{Invalid}
use Rattle.omx_types.specs.declared.command.Completion.{Completion}
use Rattle.omx_types.specs.declared.command.Note.{Note}
use Rattle.il_machine.specs.World.{Component, World, Given, number_of}
use Rattle.il_machine.specs.Components.{is_given_to}
use Rattle.il_machine.specs.Queued.{queued_for, notes_given}
use Rattle.il_machine.specs.Sound.{AreRising}
use Rattle.machine_laws.proofs.Finding.{either}
use Rattle.machine_laws.proofs.Every.{set_there}
use Rattle.machine_laws.proofs.Lookups.{rising_set}
use Rattle.history_laws.proofs.Named.{named, named_number, named_set, named_push, named_removed, named_there, named_gone}
use Rattle.history_laws.proofs.Growth.{Grows}
use Rattle.history_laws.proofs.Queues.{Advances, queued_is, advances_not, advances_on, advances_as, advances_set}

abbrev pub Nothing : Completion → Type 0
Nothing x = ⊥

-- the state is the same
abbrev pub SameState : Component → Component → Type 0
SameState c d = d.state ≡ c.state

-- the state is the same, or Invalid with nothing pending
abbrev pub KeepsState : Component → Component → Type 0
KeepsState c d = (d.state ≡ c.state) ⊎ ((d.state ≡ Invalid) × (d.pending ≡ None))

-- Of each number that is there before and after: no completion was told, and the component changed so.
abbrev pub Quiet : (Component → Component → Type 0) → World → World → Type 0
Quiet R w v = (number : ℕ) (e f : Component) → named number w.components ≡ Some e → named number v.components ≡ Some f → Advances Nothing number w v × R e f

one_found : (number : ℕ) (cs : List Component) (e f : Component) → named number cs ≡ Some e → named number cs ≡ Some f → f ≡ e
one_found number cs e f a b = let s : Some f ≡ Some e = sym b ∙ a in cc

pub quiet_as : (R Q : Component → Component → Type 0) (w v : World) → ((c d : Component) → R c d → Q c d) → Quiet R w v → Quiet Q w v
quiet_as R Q w v h A = λ number e f a b. let x = A number e f a b in (x.0, h e f x.1)

-- ---- nothing but headers

abbrev pub gather : ℕ → List Given → List Note
gather number given = map (λ (x : Given). x.note) (filter (is_given_to number) given)

pub quiet_same : (R : Component → Component → Type 0) (w v : World) → ((c : Component) → R c c) → v.components ≡ w.components → v.given ≡ w.given → Quiet R w v
quiet_same R w v r cs g = λ number e f a b.
    let there : named number v.components ≡ Some e = rw cs a in
    let q : queued_for number v ≡ queued_for number w = queued_is number v e there ∙ (rw g refl ∙ sym (queued_is number w e a)) in
    let is : f ≡ e = one_found number v.components e f there b in
    (advances_not Nothing number w v e there q, subst (λ (x : Component). R e x) (sym is) (r e))

-- ---- one component

pub quiet_set : (R : Component → Component → Type 0) (i : ℕ) (w v : World) (c d : Component) → ((x : Component) → R x x) → slice_get w.components i ≡ Some c → v.components ≡ set w.components i d → v.given ≡ w.given
    → Grows Nothing c d → R c d → Quiet R w v
quiet_set R i w v c d r at cs g G h = λ number e f a b.
    let A = advances_set Nothing number i w v c d e at cs g G a in
    let k : R e f = elim (named_set number i w.components c d e at G.number a) [
      | inl s ↦
          let there : named number v.components ≡ Some d = rw cs s.1 in
          let is : f ≡ d = one_found number v.components d f there b in
          subst (λ (x : Component). R x f) (sym s.0) (subst (λ (x : Component). R c x) (sym is) h)
      | inr s ↦
          let there : named number v.components ≡ Some e = rw cs s in
          let is : f ≡ e = one_found number v.components e f there b in
          subst (λ (x : Component). R e x) (sym is) (r e)
    ] in
    (advances_as (λ x. (number_of c ≡ number) × Nothing x) Nothing number w v (λ x t. t.1) A, k)

-- one act after another
pub quiet_on : (w m v : World) → ((number : ℕ) (e : Component) → named number w.components ≡ Some e → (x : Component) × (named number m.components ≡ Some x)) → Quiet SameState w m → Quiet SameState m v → Quiet SameState w v
quiet_on w m v there A B = λ number e f a b.
    let x = there number e a in
    let p = A number e x.0 a x.1 in
    let q = B number x.0 f x.1 b in
    (advances_on Nothing number w m v p.0 q.0, q.1 ∙ p.1)

pub set_named : (i : ℕ) (cs : List Component) (c d : Component) → slice_get cs i ≡ Some c → number_of d ≡ number_of c → (number : ℕ) (e : Component) → named number cs ≡ Some e → (x : Component) × (named number (set cs i d) ≡ Some x)
set_named i cs c d at n number e a = elim (named_set number i cs c d e at n a) [ inl s ↦ (d, s.1) | inr s ↦ (e, s) ]

-- ---- a new component

pub quiet_push : (R : Component → Component → Type 0) (w v : World) (d : Component) → ((c : Component) → R c c) → v.components ≡ w.components ++ d ∷ [] → v.given ≡ w.given → Quiet R w v
quiet_push R w v d r cs g = λ number e f a b.
    let there : named number v.components ≡ Some e = rw cs (named_push number w.components d e a) in
    let q : queued_for number v ≡ queued_for number w = queued_is number v e there ∙ (rw g refl ∙ sym (queued_is number w e a)) in
    let is : f ≡ e = one_found number v.components e f there b in
    (advances_not Nothing number w v e there q, subst (λ (x : Component). R e x) (sym is) (r e))

-- ---- a component that leaves

pub others_given : (number other : ℕ) (given : List Given) → other ≢ number → gather number (filter (λ g. not (is_given_to other g)) given) ≡ gather number given
others_given number other [] n = refl
others_given number other (g ∷ given) n =
    let i = others_given number other given n in
    either (is_given_to other g)
    (λ t.
    let f : is_given_to number g ≡ false = ne_eqb g.component number (λ k. n (sym (eqb-true _ _ t) ∙ k)) in
    rw (t, f) i)
    (λ f. rw f (either (is_given_to number g) (λ t. rw t (ap (λ (l : List Note). g.note ∷ l) i)) (λ k. rw k i)))

pub quiet_removed : (R : Component → Component → Type 0) (i : ℕ) (w v : World) (c : Component) → ((x : Component) → R x x) → AreRising 0 w.components w.numbered → slice_get w.components i ≡ Some c
    → v.components ≡ remove w.components i → v.given ≡ filter (λ g. not (is_given_to (number_of c) g)) w.given → Quiet R w v
quiet_removed R i w v c r rises at cs g = λ number e f a b. either (nat_eq (number_of c) number)
    (λ t.
    let n : number_of c ≡ number = eqb-true _ _ t in
    let gone : named number v.components ≡ None = rw (cs, ← n) (named_gone 0 w.numbered i w.components c rises at) in
    absurd cc)
    (λ t.
    let n : number_of c ≢ number = eqb-false _ _ t in
    let there : named number v.components ≡ Some e = rw cs (named_removed number i w.components c at n ∙ a) in
    let given : notes_given number v ≡ notes_given number w = ap (gather number) g ∙ others_given number (number_of c) w.given n in
    let q : queued_for number v ≡ queued_for number w = queued_is number v e there ∙ (ap (λ (l : List Note). l ++ e.notes) given ∙ sym (queued_is number w e a)) in
    let is : f ≡ e = one_found number v.components e f there b in
    (advances_not Nothing number w v e there q, subst (λ (x : Component). R e x) (sym is) (r e)))

-- ---- a note that is given

pub given_push : (number : ℕ) (given : List Given) (g : Given) → gather number (given ++ g ∷ []) ≡ gather number given ++ gather number (g ∷ [])
given_push number [] g = refl
given_push number (x ∷ given) g = either (is_given_to number x)
    (λ t. rw t (ap (λ (l : List Note). x.note ∷ l) (given_push number given g)))
    (λ f. rw f (given_push number given g))

pub first_note : (notes : List Note) (note : Note) → slice_get notes 0 ≡ Some note → notes ≡ note ∷ drop 1 notes
first_note [] note e = absurd cc
first_note (x ∷ notes) note e = let s : x ≡ note = cc in rw s refl

-- The oldest note leaves the queue and is given.
pub record IsTaken (i : ℕ) (w v : World) (c d : Component) (note : Note) : Type 0 where
  pub there : slice_get w.components i ≡ Some c
  pub components : v.components ≡ set w.components i d
  pub number : number_of d ≡ number_of c
  pub oldest : slice_get c.notes 0 ≡ Some note
  pub rest : d.notes ≡ drop 1 c.notes
  pub given : v.given ≡ w.given ++ record { component = number_of c; note = note } ∷ []

taken_own : (i : ℕ) (w v : World) (c d e : Component) (note : Note) → AreRising 0 w.components w.numbered → IsTaken i w v c d note → named (number_of c) v.components ≡ Some d → Advances Nothing (number_of c) w v
taken_own i w v c d e note rises T there =
    let number : ℕ = number_of c in
    let was : named number w.components ≡ Some c = named_there 0 w.numbered i w.components c rises T.there in
    let own : gather number (record { component = number_of c; note = note } ∷ []) ≡ note ∷ [] = rw (eq-eqb number number refl) refl in
    let g : notes_given number v ≡ notes_given number w ++ note ∷ [] = ap (gather number) T.given ∙ (given_push number w.given (record { component = number_of c; note = note }) ∙ ap (λ (l : List Note). gather number w.given ++ l) own) in
    let n : c.notes ≡ note ∷ drop 1 c.notes = first_note c.notes note T.oldest in
    let q : queued_for number v ≡ queued_for number w =
    queued_is number v d there
    ∙ (ap (λ (l : List Note). l ++ d.notes) g
    ∙ (ap (λ (l : List Note). (notes_given number w ++ note ∷ []) ++ l) T.rest
    ∙ (append_assoc (notes_given number w) (note ∷ []) (drop 1 c.notes)
    ∙ (ap (λ (l : List Note). notes_given number w ++ l) (sym n) ∙ sym (queued_is number w c was))))) in
    advances_not Nothing number w v d there q

taken_other : (i number : ℕ) (w v : World) (c d e : Component) (note : Note) → IsTaken i w v c d note → number_of c ≢ number → named number w.components ≡ Some e → named number v.components ≡ Some e → Advances Nothing number w v
taken_other i number w v c d e note T n was there =
    let own : gather number (record { component = number_of c; note = note } ∷ []) ≡ [] = rw (ne_eqb (number_of c) number n) refl in
    let g : notes_given number v ≡ notes_given number w =
    ap (gather number) T.given ∙ (given_push number w.given (record { component = number_of c; note = note }) ∙ (ap (λ (l : List Note). gather number w.given ++ l) own ∙ append-nil (gather number w.given))) in
    let q : queued_for number v ≡ queued_for number w = queued_is number v e there ∙ (ap (λ (l : List Note). l ++ e.notes) g ∙ sym (queued_is number w e was)) in
    advances_not Nothing number w v e there q

pub quiet_taken : (R : Component → Component → Type 0) (i : ℕ) (w v : World) (c d : Component) (note : Note) → ((x : Component) → R x x) → AreRising 0 w.components w.numbered → IsTaken i w v c d note → R c d → Quiet R w v
quiet_taken R i w v c d note r rises T h = λ number e f a b. either (nat_eq (number_of c) number)
    (λ t.
    let n : number_of c ≡ number = eqb-true _ _ t in
    let was : named number w.components ≡ Some c = rw (← n) (named_there 0 w.numbered i w.components c rises T.there) in
    let raised = rising_set 0 w.numbered i w.components c d rises T.there T.number in
    let m : number_of d ≡ number = T.number ∙ n in
    let there : named (number_of d) (set w.components i d) ≡ Some d = named_there 0 w.numbered i (set w.components i d) d raised (set_there w.components i c d T.there) in
    let here : named number v.components ≡ Some d = rw (T.components, ← m) there in
    let own : named (number_of c) v.components ≡ Some d = rw n here in
    let x : Advances Nothing number w v = subst (λ (k : ℕ). Advances Nothing k w v) n (taken_own i w v c d e note rises T own) in
    let is : f ≡ d = one_found number v.components d f here b in
    let was_e : c ≡ e = one_found number w.components e c a was in
    (x, subst (λ (y : Component). R y f) was_e (subst (λ (y : Component). R c y) (sym is) h)))
    (λ t.
    let n : number_of c ≢ number = eqb-false _ _ t in
    elim (named_set number i w.components c d e T.there T.number a) [
      | inl s ↦ absurd (n (ap number_of (sym s.0) ∙ named_number number w.components e a))
      | inr s ↦
          let there : named number v.components ≡ Some e = rw T.components s in
          let is : f ≡ e = one_found number v.components e f there b in
          (taken_other i number w v c d e note T n a there, subst (λ (y : Component). R e y) (sym is) (r e))
    ])
