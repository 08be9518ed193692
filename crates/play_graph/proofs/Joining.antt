-- Steps of a graph one behind another, and what each component keeps in them.
use Rattle.std.proofs.Common.{refl, ◌∙◌, ap}
use Rattle.il_machine.specs.declared.answer.Progress.{Progress}
use Rattle.il_machine.specs.Whole.{StepsWhere}
use Rattle.il_machine.specs.World.{Component, World}
use Rattle.il_graph.specs.Shown.{Shown}
use Rattle.play_build_laws.specs.Halting.{IsSameButNotes, KeepsFiles}
use Rattle.play_graph.specs.Ending.{StandsFor}
use Rattle.play_graph.specs.Graphs.{kept_of}

pub files_same : (w : World) → KeepsFiles w w
files_same w = record { many = refl; each = λ i b e. (b, e, refl) }

pub files_then : (w u v : World) → KeepsFiles w u → KeepsFiles u v → KeepsFiles w v
files_then w u v A B = record {
  many = B.many ∙ A.many;
  each = λ i c e.
      let b = B.each i c e in
      let a = A.each i b.0 b.1 in
      (a.0, a.1, b.2 ∙ a.2);
}

pub notes_same : (w : World) → IsSameButNotes w w
notes_same w = record { many = refl; each = λ i b e. (b, e, refl) }

pub notes_then : (w u v : World) → IsSameButNotes w u → IsSameButNotes u v → IsSameButNotes w v
notes_then w u v A B = record {
  many = B.many ∙ A.many;
  each = λ i c e.
      let b = B.each i c e in
      let a = A.each i b.0 b.1 in
      (a.0, a.1, b.2 ∙ ap (λ (y : Component). record y { notes = c.notes }) a.2);
}

module _ {S K : Type 0} (R : World → World → Type 0) where
  pub steps_none : (A : World → Type 0) → ((w : World) → R w w) → (g : Shown S K Progress) → StepsWhere (kept_of g) (kept_of g) A (λ w v. A v × R w v)
  steps_none A same g = λ w s a. (w, s, (a, same w))

  pub steps_then : (A B C : World → Type 0) → ((w u v : World) → R w u → R u v → R w v) → (g k m : Shown S K Progress) → StepsWhere (kept_of g) (kept_of k) A (λ w v. B v × R w v)
      → StepsWhere (kept_of k) (kept_of m) B (λ w v. C v × R w v) → StepsWhere (kept_of g) (kept_of m) A (λ w v. C v × R w v)
  steps_then A B C more g k m one other = λ w s a.
      let u = one w s a in
      let v = other u.0 u.1 u.2.0 in
      (v.0, v.1, (v.2.0, more w u.0 v.0 u.2.1 v.2.1))

  pub stands_then : (A B : World → Type 0) → (g k : Shown S K Progress) → StandsFor A g → StepsWhere (kept_of g) (kept_of k) A (λ w v. B v × R w v) → StandsFor B k
  stands_then A B g k (w, s, a) steps = let v = steps w s a in (v.0, v.1, v.2.0)
