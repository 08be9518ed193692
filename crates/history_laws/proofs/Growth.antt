-- How the notes of a component grow: at their end, and by which completions.
use Rattle.std.proofs.Common.{◌≡◌, ◌⊎◌, inl, inr, zero, suc, List, [], ◌∷◌, ◌++◌, refl, sym, ◌∙◌, ap, subst, append_assoc, arith}
use Rattle.std.specs.Prelude.{Contains}
use Rattle.std.proofs.lemmas.List.{append-nil}
use Rattle.omx_types.specs.declared.command.Completion.{Completion}
use Rattle.omx_types.specs.declared.command.Event.TheVariants as events
use Rattle.omx_types.specs.declared.command.Note.{Note}
use Rattle.omx_types.specs.declared.command.Note.TheVariants.{Told, EmptyDone, FillDone}
use Rattle.omx_types.specs.declared.error.OmxError.{OmxError}
use Rattle.il_machine.specs.World.{Component, number_of, told, noted}
use Rattle.il_machine.specs.Queued.{completions_in}

-- The second component is the first with more notes at the end. What completions are among these has the property.
pub record Grows (T : Completion → Type 0) (c d : Component) : Type 0 where
  pub number : number_of d ≡ number_of c
  pub added : List Note
  pub notes : d.notes ≡ c.notes ++ added
  pub tells : (x : Completion) → Contains (completions_in added) x → T x

pub completions_append : (xs ys : List Note) → completions_in (xs ++ ys) ≡ completions_in xs ++ completions_in ys
completions_append [] ys = refl
completions_append (Told (events.CmdComplete x) ∷ xs) ys = ap (λ (l : List Completion). x ∷ l) (completions_append xs ys)
completions_append (Told (events.Error e) ∷ xs) ys = completions_append xs ys
completions_append (Told (events.Mark m) ∷ xs) ys = completions_append xs ys
completions_append (Told (events.PortSettingsChanged p) ∷ xs) ys = completions_append xs ys
completions_append (Told (events.BufferFlag p f) ∷ xs) ys = completions_append xs ys
completions_append (Told events.ResourcesAcquired ∷ xs) ys = completions_append xs ys
completions_append (EmptyDone n ∷ xs) ys = completions_append xs ys
completions_append (FillDone n ∷ xs) ys = completions_append xs ys

module _ {X : Type 0} where
  pub none_in : (x : X) → Contains [] x → ⊥
  none_in x h = let l = h.1 in omega arith

  pub only_in : (y x : X) → Contains (y ∷ []) x → y ≡ x
  only_in y x (zero, l, e) = e
  only_in y x (suc k, l, e) = absurd (omega arith)

  pub in_either : (P : X → Type 0) (xs ys : List X) → ((x : X) → Contains xs x → P x) → ((x : X) → Contains ys x → P x) → (x : X) → Contains (xs ++ ys) x → P x
  in_either P [] ys a b x h = b x h
  in_either P (z ∷ xs) ys a b x (zero, l, e) = a x (0, omega arith, e)
  in_either P (z ∷ xs) ys a b x (suc k, l, e) = in_either P xs ys (λ y c. a y (suc c.0, omega (arith, c.1), c.2)) b x (k, omega arith, e)

pub grows_not : (T : Completion → Type 0) (c d : Component) → number_of d ≡ number_of c → d.notes ≡ c.notes → Grows T c d
grows_not T c d n e = record { number = n; added = []; notes = e ∙ sym (append-nil c.notes); tells = λ x h. absurd (none_in x h) }

pub grows_on : (T : Completion → Type 0) (c d e : Component) → Grows T c d → Grows T d e → Grows T c e
grows_on T c d e A B = record {
  number = B.number ∙ A.number;
  added = A.added ++ B.added;
  notes = B.notes ∙ (ap (λ (l : List Note). l ++ B.added) A.notes ∙ append_assoc c.notes A.added B.added);
  tells = λ x h. in_either T (completions_in A.added) (completions_in B.added) A.tells B.tells x (subst (λ (l : List Completion). Contains l x) (completions_append A.added B.added) h);
}

pub grows_by : (T : Completion → Type 0) (note : Note) (c : Component) → ((x : Completion) → Contains (completions_in (note ∷ [])) x → T x) → Grows T c (noted note c)
grows_by T note c h = record { number = refl; added = note ∷ []; notes = refl; tells = h }

-- an error is told, which is no completion
pub fails : (T : Completion → Type 0) (error : OmxError) (c : Component) → Grows T c (told (events.Error error) c)
fails T error c = grows_by T (Told (events.Error error)) c (λ x a. absurd (none_in x a))

-- ---- what a happening tells: one completion at most, before all else

-- no completion is among the notes, or the first tells the one that is
abbrev pub IsSaying : (Completion → Type 0) → List Note → Type 0
IsSaying T added = (completions_in added ≡ []) ⊎ ((x : Completion) × (behind : List Note) × (added ≡ Told (events.CmdComplete x) ∷ behind) × T x × (completions_in behind ≡ []))

-- The second component is the first with more notes at the end, which tell one completion at most: the first of them.
pub record Says (T : Completion → Type 0) (c d : Component) : Type 0 where
  pub number : number_of d ≡ number_of c
  pub added : List Note
  pub notes : d.notes ≡ c.notes ++ added
  pub saying : IsSaying T added

-- the completion among such notes is told by the first of them
pub first_said : (T : Completion → Type 0) (added : List Note) (x : Completion) → IsSaying T added → Contains (completions_in added) x → T x × ((behind : List Note) × (added ≡ Told (events.CmdComplete x) ∷ behind))
first_said T added x (inl none) h = absurd (none_in x (subst (λ (l : List Completion). Contains l x) none h))
first_said T added x (inr (y, behind, e, t, none)) h =
    let all : completions_in added ≡ y ∷ [] = ap completions_in e ∙ ap (λ (l : List Completion). y ∷ l) none in
    let is : y ≡ x = only_in y x (subst (λ (l : List Completion). Contains l x) all h) in
    (subst T is t, (behind, subst (λ (z : Completion). added ≡ Told (events.CmdComplete z) ∷ behind) is e))

pub says_not : (T : Completion → Type 0) (c d : Component) → number_of d ≡ number_of c → d.notes ≡ c.notes → Says T c d
says_not T c d n e = record { number = n; added = []; notes = e ∙ sym (append-nil c.notes); saying = inl refl }

-- a completion is told
pub says : (T : Completion → Type 0) (y : Completion) (c : Component) → T y → Says T c (told (events.CmdComplete y) c)
says T y c h = record { number = refl; added = Told (events.CmdComplete y) ∷ []; notes = refl; saying = inr (y, [], refl, h, refl) }

-- after a change that tells nothing
pub says_after : (T : Completion → Type 0) (c d e : Component) → number_of d ≡ number_of c → d.notes ≡ c.notes → Says T d e → Says T c e
says_after T c d e n k S = record { number = S.number ∙ n; added = S.added; notes = S.notes ∙ ap (λ (l : List Note). l ++ S.added) k; saying = S.saying }

pub none_contained : (xs : List Completion) → ((x : Completion) → Contains xs x → ⊥) → xs ≡ []
none_contained [] h = refl
none_contained (x ∷ xs) h = absurd (h x (0, omega arith, refl))

saying_on : (T : Completion → Type 0) (xs ys : List Note) → IsSaying T xs → completions_in ys ≡ [] → IsSaying T (xs ++ ys)
saying_on T xs ys (inl none) e = inl (completions_append xs ys ∙ (rw none e))
saying_on T xs ys (inr (x, behind, is, t, none)) e = inr (x, behind ++ ys, ap (λ (l : List Note). l ++ ys) is, t, completions_append behind ys ∙ (rw none e))

-- before more notes that tell no completion
pub says_on : (T : Completion → Type 0) (c d e : Component) → Says T c d → Grows (λ x. ⊥) d e → Says T c e
says_on T c d e S G = record {
  number = G.number ∙ S.number;
  added = S.added ++ G.added;
  notes = G.notes ∙ (ap (λ (l : List Note). l ++ G.added) S.notes ∙ append_assoc c.notes S.added G.added);
  saying = saying_on T S.added G.added S.saying (none_contained (completions_in G.added) G.tells);
}

-- ---- where a note stands

-- a note of two lists stands in the first, or behind it in the second
pub split_in : (xs ys front rest : List Note) (note : Note) → xs ++ ys ≡ front ++ note ∷ rest → ((more : List Note) × (xs ≡ front ++ note ∷ more)) ⊎ ((further : List Note) × (front ≡ xs ++ further) × (ys ≡ further ++ note ∷ rest))
split_in [] ys front rest note e = inr (front, refl, e)
split_in (z ∷ xs) ys [] rest note e = let s : z ≡ note = cc in inl (xs, ap (λ (n : Note). n ∷ xs) s)
split_in (z ∷ xs) ys (y ∷ front) rest note e =
    let s : z ≡ y = cc in
    let t : xs ++ ys ≡ front ++ note ∷ rest = cc in
    elim (split_in xs ys front rest note t) [
      | inl (more, q) ↦ inl (more, ap (λ (n : Note). n ∷ xs) s ∙ ap (λ (l : List Note). y ∷ l) q)
      | inr (further, q, k) ↦ inr (further, ap (λ (l : List Note). y ∷ l) q ∙ ap (λ (n : Note). n ∷ (xs ++ further)) (sym s), k)
    ]

not_empty : (xs ys : List Completion) (x : Completion) → xs ++ x ∷ ys ≡ [] → ⊥
not_empty [] ys x e = cc
not_empty (y ∷ xs) ys x e = cc

some_completion : (front rest : List Note) (x : Completion) → completions_in (front ++ Told (events.CmdComplete x) ∷ rest) ≡ [] → ⊥
some_completion front rest x e = not_empty (completions_in front) (completions_in rest) x (sym (completions_append front (Told (events.CmdComplete x) ∷ rest)) ∙ e)

same_told : (x y : Completion) → Told (events.CmdComplete x) ≡ Told (events.CmdComplete y) → x ≡ y
same_told x y e = let s : events.CmdComplete x ≡ events.CmdComplete y = cc in cc

-- the completion that is told stands before all else
pub said_front : (T : Completion → Type 0) (added front rest : List Note) (x : Completion) → IsSaying T added → added ≡ front ++ Told (events.CmdComplete x) ∷ rest → (front ≡ []) × T x
said_front T added front rest x (inl none) e = absurd (some_completion front rest x (sym (ap completions_in e) ∙ none))
said_front T added [] rest x (inr (y, behind, is, t, none)) e =
    let a : Told (events.CmdComplete y) ∷ behind ≡ Told (events.CmdComplete x) ∷ rest = sym is ∙ e in
    let b : Told (events.CmdComplete y) ≡ Told (events.CmdComplete x) = cc in
    (refl, subst T (same_told y x b) t)
said_front T added (z ∷ front) rest x (inr (y, behind, is, t, none)) e =
    let a : Told (events.CmdComplete y) ∷ behind ≡ z ∷ (front ++ Told (events.CmdComplete x) ∷ rest) = sym is ∙ e in
    let b : behind ≡ front ++ Told (events.CmdComplete x) ∷ rest = cc in
    absurd (some_completion front rest x (sym (ap completions_in b) ∙ none))
