-- The order in which failed steps are told is one: the first of a list comes before all others of it.
use Rattle.std.proofs.Common.{◌≡◌, ◌⊎◌, ℕ, nat_le, Bool, true, false, List, [], ◌∷◌, ◌++◌, Option, Some, None, inl, inr, refl, sym, ◌∙◌, subst, arith}
use Rattle.std.proofs.lemmas.Bool.Decides.{nat_tests}
use Rattle.omx_types.specs.declared.fault.PartFault.{PartFault}
use Rattle.omx_types.specs.declared.fault.PartFault.TheVariants as parts
use Rattle.turnstile.specs.declared.entry.Entry.{Entry}
use Rattle.graph_acts.specs.declared.act.Act.{Act}
use Rattle.graph_acts.specs.declared.act.Reply.{Reply}
use Rattle.play_worker.specs.declared.failure.Failure.{Failure}
use Rattle.play_worker.specs.Failing.{HasFailed, TellsWorst, failure_in, first_of, is_fault_first, is_first, worse}

-- ---- the order

le_itself : (a : ℕ) → nat_le a a ≡ true
le_itself a = grind (arith, nat_tests)

le_other : (a b : ℕ) → nat_le a b ≡ false → nat_le b a ≡ true
le_other a b n = grind (arith, nat_tests)

le_on : (a b c : ℕ) → nat_le a b ≡ true → nat_le b c ≡ true → nat_le a c ≡ true
le_on a b c f g = grind (arith, nat_tests)

fault_itself : (a : ℕ) (f : PartFault) → is_fault_first a a f f ≡ true
fault_itself a parts.Read = refl
fault_itself a parts.Write = refl
fault_itself a (parts.Short at size) = le_itself a

fault_other : (a b : ℕ) (f g : PartFault) → is_fault_first a b f g ≡ false → is_fault_first b a g f ≡ true
fault_other a b parts.Read g n = absurd cc
fault_other a b parts.Write parts.Read n = refl
fault_other a b parts.Write parts.Write n = absurd cc
fault_other a b parts.Write (parts.Short at size) n = absurd cc
fault_other a b (parts.Short at size) parts.Read n = refl
fault_other a b (parts.Short at size) parts.Write n = refl
fault_other a b (parts.Short at size) (parts.Short at' size') n = le_other a b n

fault_on : (a b c : ℕ) (f g h : PartFault) → is_fault_first a b f g ≡ true → is_fault_first b c g h ≡ true → is_fault_first a c f h ≡ true
fault_on a b c parts.Read g h m n = refl
fault_on a b c parts.Write parts.Read h m n = absurd cc
fault_on a b c parts.Write parts.Write parts.Read m n = absurd cc
fault_on a b c parts.Write parts.Write parts.Write m n = refl
fault_on a b c parts.Write parts.Write (parts.Short at size) m n = refl
fault_on a b c parts.Write (parts.Short at size) parts.Read m n = absurd cc
fault_on a b c parts.Write (parts.Short at size) parts.Write m n = refl
fault_on a b c parts.Write (parts.Short at size) (parts.Short at' size') m n = refl
fault_on a b c (parts.Short at size) parts.Read h m n = absurd cc
fault_on a b c (parts.Short at size) parts.Write h m n = absurd cc
fault_on a b c (parts.Short at size) (parts.Short at' size') parts.Read m n = absurd cc
fault_on a b c (parts.Short at size) (parts.Short at' size') parts.Write m n = absurd cc
fault_on a b c (parts.Short at size) (parts.Short at' size') (parts.Short at'' size'') m n = le_on a b c m n

pub first_itself : (f : Failure) → is_first f f ≡ true
first_itself f = fault_itself (f.component).generation f.fault

pub first_other : (f g : Failure) → is_first f g ≡ false → is_first g f ≡ true
first_other f g n = fault_other (f.component).generation (g.component).generation f.fault g.fault n

pub first_on : (f g h : Failure) → is_first f g ≡ true → is_first g h ≡ true → is_first f h ≡ true
first_on f g h m n = fault_on (f.component).generation (g.component).generation (h.component).generation f.fault g.fault h.fault m n

-- ---- among calls

same_some : (f g : Failure) → Some f ≡ Some g → f ≡ g
same_some f g e = cc

pub no_some : (o : Option Failure) (f : Failure) → o ≡ None → o ≡ Some f → ⊥
no_some o f e e' = cc

module _ {S K C : Type 0} where
  pub failed_before : (xs ys : List (Entry (Act S K C) (Reply S K C))) (f : Failure) → HasFailed xs f → HasFailed (xs ++ ys) f
  failed_before [] ys f h = absurd h
  failed_before (x ∷ xs) ys f h = elim h [ inl e ↦ inl e | inr m ↦ inr (failed_before xs ys f m) ]

  pub failed_behind : (xs ys : List (Entry (Act S K C) (Reply S K C))) (f : Failure) → HasFailed ys f → HasFailed (xs ++ ys) f
  failed_behind [] ys f h = h
  failed_behind (x ∷ xs) ys f h = inr (failed_behind xs ys f h)

  pub failed_either : (xs ys : List (Entry (Act S K C) (Reply S K C))) (f : Failure) → HasFailed (xs ++ ys) f → HasFailed xs f ⊎ HasFailed ys f
  failed_either [] ys f h = inr h
  failed_either (x ∷ xs) ys f h = elim h [
    | inl e ↦ inl (inl e)
    | inr m ↦ elim (failed_either xs ys f m) [ inl a ↦ inl (inr a) | inr b ↦ inr b ]
  ]

  -- where no step failed since, the same is told
  pub tells_still : (xs ys : List (Entry (Act S K C) (Reply S K C))) (worst : Option Failure) → ((f : Failure) → HasFailed ys f → ⊥) → TellsWorst xs worst → TellsWorst (xs ++ ys) worst
  tells_still xs ys None n t = λ f h. elim (failed_either xs ys f h) [ inl a ↦ t f a | inr b ↦ n f b ]
  tells_still xs ys (Some one) n t = (
    failed_before xs ys one t.0,
    λ f h. elim (failed_either xs ys f h) [ inl a ↦ t.1 f a | inr b ↦ absurd (n f b) ],
  )

  none_in : (e : Entry (Act S K C) (Reply S K C)) → failure_in e.act ≡ None → (f : Failure) → HasFailed (e ∷ []) f → ⊥
  none_in e o f h = elim h [ inl a ↦ no_some (failure_in e.act) f o a | inr b ↦ b ]

  it_is : (e : Entry (Act S K C) (Reply S K C)) (g f : Failure) → failure_in e.act ≡ Some g → HasFailed (e ∷ []) f → g ≡ f
  it_is e g f o h = elim h [ inl a ↦ same_some g f (sym o ∙ a) | inr b ↦ absurd b ]

  -- the first of two is told of both
  tells_first : (xs : List (Entry (Act S K C) (Reply S K C))) (e : Entry (Act S K C) (Reply S K C)) (one g : Failure) → failure_in e.act ≡ Some g → TellsWorst xs (Some one)
      → (b : Bool) → is_first one g ≡ b → TellsWorst (xs ++ e ∷ []) (Some (first_of one g))
  tells_first xs e one g o t true first =
      let is : first_of one g ≡ one = rw first refl in
      subst (λ (x : Failure). TellsWorst (xs ++ e ∷ []) (Some x)) (sym is) (
        failed_before xs (e ∷ []) one t.0,
        λ f h. elim (failed_either xs (e ∷ []) f h) [ inl a ↦ t.1 f a | inr b ↦ subst (λ (x : Failure). is_first one x ≡ true) (it_is e g f o b) first ],
      )
  tells_first xs e one g o t false later =
      let is : first_of one g ≡ g = rw later refl in
      subst (λ (x : Failure). TellsWorst (xs ++ e ∷ []) (Some x)) (sym is) (
        failed_behind xs (e ∷ []) g (inl o),
        λ f h. elim (failed_either xs (e ∷ []) f h) [
          | inl a ↦ first_on g one f (first_other one g later) (t.1 f a)
          | inr b ↦ subst (λ (x : Failure). is_first g x ≡ true) (it_is e g f o b) (first_itself g)
        ],
      )

  -- of the calls before and one more the worse is told
  pub tells_worse : (xs : List (Entry (Act S K C) (Reply S K C))) (e : Entry (Act S K C) (Reply S K C)) (worst next : Option Failure) → failure_in e.act ≡ next → TellsWorst xs worst → TellsWorst (xs ++ e ∷ []) (worse worst next)
  tells_worse xs e None None o t = tells_still xs (e ∷ []) None (none_in e o) t
  tells_worse xs e (Some one) None o t = tells_still xs (e ∷ []) (Some one) (none_in e o) t
  tells_worse xs e None (Some g) o t = (
    failed_behind xs (e ∷ []) g (inl o),
    λ f h. elim (failed_either xs (e ∷ []) f h) [ inl a ↦ absurd (t f a) | inr b ↦ subst (λ (x : Failure). is_first g x ≡ true) (it_is e g f o b) (first_itself g) ],
  )
  tells_worse xs e (Some one) (Some g) o t = tells_first xs e one g o t (is_first one g) refl
