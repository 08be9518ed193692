-- Which components come into a world: one of the next number, with nothing queued for it. A number that was given once doesn't come back.
use Rattle.std.proofs.Common.{◌≡◌, ◌≢◌, inl, ℕ, zero, suc, ◌+◌, ◌≤◌, not, List, [], ◌∷◌, ◌++◌, set, remove, slice_get, Option, Some, None, refl, sym, ◌∙◌, ap, eqb-true, ne_eqb, arith}
use Rattle.std.specs.Prelude.{filter}
use Rattle.std.proofs.lemmas.List.{append-nil}
use Rattle.omx_types.specs.declared.command.Note.{Note}
use Rattle.il_machine.specs.World.{Component, World, number_of, is_numbered}
use Rattle.il_machine.specs.Components.{is_given_to}
use Rattle.il_machine.specs.Queued.{queued_for, notes_given, notes_of}
use Rattle.il_machine.specs.Sound.{AreRising}
use Rattle.machine_laws.proofs.Finding.{either}
use Rattle.machine_laws.proofs.Lookups.{rises_at}
use Rattle.history_laws.proofs.Named.{named, is_named, none_set}
use Rattle.history_laws.proofs.Growth.{Grows}
use Rattle.history_laws.proofs.Queues.{queued_is}
use Rattle.history_laws.proofs.Quiet.{Quiet, KeepsState, Nothing, IsTaken, gather, others_given, given_push, quiet_same, quiet_set, quiet_push, quiet_removed, quiet_taken}

pub record Births (w v : World) : Type 0 where
  pub numbered : w.numbered ≤ v.numbered
  -- nothing is given to a client of a number that isn't given yet
  pub late : (number : ℕ) → v.numbered ≤ number → notes_given number v ≡ notes_given number w
  -- a component that wasn't there has a new number, and nothing more is queued for that
  pub born : (number : ℕ) (f : Component) → named number v.components ≡ Some f → named number w.components ≡ None → (w.numbered ≤ number) × (queued_for number v ≡ queued_for number w)

-- What an act that tells no completion does to the components.
pub record TellsNothing (w v : World) : Type 0 where
  pub quiet : Quiet KeepsState w v
  pub births : Births w v

keeps : (c : Component) → KeepsState c c
keeps c = inl refl

-- no component comes
none_come : (w v : World) → v.numbered ≡ w.numbered → ((number : ℕ) → v.numbered ≤ number → notes_given number v ≡ notes_given number w) → ((number : ℕ) → named number w.components ≡ None → named number v.components ≡ None) → Births w v
none_come w v n g h = record {
  numbered = omega (arith, n);
  late = g;
  born = λ number f a b. let none = h number b in absurd cc;
}

given_as : (number : ℕ) (w v : World) → v.given ≡ w.given → notes_given number v ≡ notes_given number w
given_as number w v g = ap (gather number) g

pub silent_same : (w v : World) → v.components ≡ w.components → v.given ≡ w.given → v.numbered ≡ w.numbered → TellsNothing w v
silent_same w v cs g n = record {
  quiet = quiet_same KeepsState w v keeps cs g;
  births = none_come w v n (λ number l. given_as number w v g) (λ number h. ap (named number) cs ∙ h);
}

pub silent_set : (i : ℕ) (w v : World) (c d : Component) → slice_get w.components i ≡ Some c → v.components ≡ set w.components i d → v.given ≡ w.given → v.numbered ≡ w.numbered → Grows Nothing c d → KeepsState c d → TellsNothing w v
silent_set i w v c d at cs g n G k = record {
  quiet = quiet_set KeepsState i w v c d keeps at cs g G k;
  births = none_come w v n (λ number l. given_as number w v g) (λ number h. ap (named number) cs ∙ none_set number i w.components c d at G.number h);
}

-- two components give way to others, one after the other
pub silent_twice : (i j : ℕ) (w v : World) (c c' d d' : Component) → Quiet KeepsState w v → slice_get w.components i ≡ Some c → number_of c' ≡ number_of c → slice_get (set w.components i c') j ≡ Some d → number_of d' ≡ number_of d
    → v.components ≡ set (set w.components i c') j d' → v.given ≡ w.given → v.numbered ≡ w.numbered → TellsNothing w v
silent_twice i j w v c c' d d' Q at m bt k cs g n = record {
  quiet = Q;
  births = none_come w v n (λ number l. given_as number w v g)
      (λ number h. ap (named number) cs ∙ none_set number j (set w.components i c') d d' bt k (none_set number i w.components c c' at m h));
}

-- ---- a new component

last_named : (number : ℕ) (cs : List Component) (d f : Component) → named number (cs ++ d ∷ []) ≡ Some f → named number cs ≡ None → (f ≡ d) × (number_of d ≡ number)
last_named number [] d f a b = either (is_numbered number d)
    (λ t. let s : Some d ≡ Some f = rw t at a in let is : d ≡ f = cc in (sym is, eqb-true _ _ t))
    (λ t. let s : None ≡ Some f = rw t at a in absurd cc)
last_named number (x ∷ cs) d f a b = either (is_numbered number x)
    (λ t. let s : Some x ≡ None = rw t at b in absurd cc)
    (λ t. last_named number cs d f (rw t at a) (rw t at b))

pub none_queued : (number : ℕ) (w : World) → named number w.components ≡ None → queued_for number w ≡ notes_given number w
none_queued number w h = ap (λ (o : Option Component). notes_given number w ++ notes_of o) (is_named number w ∙ h) ∙ append-nil (notes_given number w)

pub silent_push : (w v : World) (d : Component) → v.components ≡ w.components ++ d ∷ [] → v.given ≡ w.given → v.numbered ≡ w.numbered + 1 → number_of d ≡ w.numbered → d.notes ≡ [] → TellsNothing w v
silent_push w v d cs g n k empty = record {
  quiet = quiet_push KeepsState w v d keeps cs g;
  births = record {
    numbered = omega (arith, n);
    late = λ number l. given_as number w v g;
    born = λ number f a b.
        let last = last_named number w.components d f (sym (ap (named number) cs) ∙ a) b in
        let here : named number v.components ≡ Some d = a ∙ ap (λ (x : Component). Some x) last.0 in
        let q : queued_for number v ≡ queued_for number w =
        queued_is number v d here
        ∙ (ap (λ (l : List Note). notes_given number v ++ l) empty ∙ (append-nil (notes_given number v) ∙ (given_as number w v g ∙ sym (none_queued number w b)))) in
        (omega (arith, k, last.1), q);
  };
}

-- ---- a component that leaves

none_removed : (number i : ℕ) (cs : List Component) → named number cs ≡ None → named number (remove cs i) ≡ None
none_removed number zero [] h = refl
none_removed number (suc i) [] h = refl
none_removed number zero (x ∷ cs) h = either (is_numbered number x)
    (λ t. let s : Some x ≡ None = rw t at h in absurd cc)
    (λ t. rw t at h)
none_removed number (suc i) (x ∷ cs) h = either (is_numbered number x)
    (λ t. let s : Some x ≡ None = rw t at h in absurd cc)
    (λ t. rw t (none_removed number i cs (rw t at h)))

pub silent_removed : (i : ℕ) (w v : World) (c : Component) → AreRising 0 w.components w.numbered → slice_get w.components i ≡ Some c → v.components ≡ remove w.components i → v.given ≡ filter (λ g. not (is_given_to (number_of c) g)) w.given
    → v.numbered ≡ w.numbered → TellsNothing w v
silent_removed i w v c rises at cs g n = record {
  quiet = quiet_removed KeepsState i w v c keeps rises at cs g;
  births = none_come w v n
      (λ number l.
      let r = rises_at 0 w.numbered i w.components c rises at in
      let apart : number_of c ≢ number = λ e. omega (arith, r.1, n, l, e) in
      ap (gather number) g ∙ others_given number (number_of c) w.given apart)
      (λ number h. ap (named number) cs ∙ none_removed number i w.components h);
}

-- ---- a note that is given

pub silent_taken : (i : ℕ) (w v : World) (c d : Component) (note : Note) → AreRising 0 w.components w.numbered → IsTaken i w v c d note → v.numbered ≡ w.numbered → KeepsState c d → TellsNothing w v
silent_taken i w v c d note rises T n k = record {
  quiet = quiet_taken KeepsState i w v c d note keeps rises T k;
  births = none_come w v n
      (λ number l.
      let r = rises_at 0 w.numbered i w.components c rises T.there in
      let apart : number_of c ≢ number = λ e. omega (arith, r.1, n, l, e) in
      let own : gather number (record { component = number_of c; note = note } ∷ []) ≡ [] = rw (ne_eqb (number_of c) number apart) refl in
      ap (gather number) T.given ∙ (given_push number w.given (record { component = number_of c; note = note }) ∙ (ap (λ (l : List Note). gather number w.given ++ l) own ∙ append-nil (gather number w.given))))
      (λ number h. ap (named number) T.components ∙ none_set number i w.components c d T.there T.number h);
}
