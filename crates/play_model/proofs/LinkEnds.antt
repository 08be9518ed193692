-- The two ends of a link: the supplier and the other one are its giver and its taker, in one order or the other.
use Rattle.std.proofs.Common.{◌≡◌, ◌⊎◌, inl, inr, ℕ, ◌<◌, Bool, true, not, ◌&&◌, nat_eq, refl, sym, subst, eqb-true, eq-eqb, arith}
use Rattle.play_model.specs.Progress.{IsLinkOf}
use Rattle.play_model.proofs.Queues.{either, both}
use Rattle.play_model.specs.Play.{Layout, IsLayout, supplier, other_component}

pub supplier_links : (w : Layout) (l : ℕ) → l < (w.network).links → IsLinkOf w.network (supplier w l) l
supplier_links w l b = either (w.by_output l)
    (λ t. rw t (inr (record { below = b; given_by = refl })))
    (λ f. rw f (inl (record { below = b; taken_by = refl })))

pub other_links : (w : Layout) (l : ℕ) → l < (w.network).links → IsLinkOf w.network (other_component w l) l
other_links w l b = either (w.by_output l)
    (λ t. rw t (inl (record { below = b; taken_by = refl })))
    (λ f. rw f (inr (record { below = b; given_by = refl })))

pub end_inside : (w : Layout) → IsLayout w → (c l : ℕ) → IsLinkOf w.network c l → c < (w.network).components
end_inside w W c l (inl I) = subst (λ (k : ℕ). k < (w.network).components) I.taken_by ((W.network).inside l I.below)
end_inside w W c l (inr O) = subst (λ (k : ℕ). k < (w.network).components) O.given_by (let o = (W.network).order l O.below in let i = (W.network).inside l O.below in omega arith)

pub link_below : (w : Layout) (c l : ℕ) → IsLinkOf w.network c l → l < (w.network).links
link_below w c l (inl I) = I.below
link_below w c l (inr O) = O.below

-- a component at an end of the link is the supplier or the other end
pub end_is : (w : Layout) (c l : ℕ) → IsLinkOf w.network c l → (c ≡ supplier w l) ⊎ (c ≡ other_component w l)
end_is w c l (inl I) = either (w.by_output l)
    (λ t. inr (rw t (sym I.taken_by)))
    (λ f. inl (rw f (sym I.taken_by)))
end_is w c l (inr O) = either (w.by_output l)
    (λ t. inl (rw t (sym O.given_by)))
    (λ f. inr (rw f (sym O.given_by)))

abbrev pub is_end : Layout → ℕ → ℕ → Bool
is_end w c l = not (not (nat_eq ((w.network).taker l) c) && not (nat_eq ((w.network).giver l) c))

pub ends_of : (w : Layout) (c l : ℕ) → l < (w.network).links → is_end w c l ≡ true → IsLinkOf w.network c l
ends_of w c l b e = either (nat_eq ((w.network).taker l) c)
    (λ t. inl (record { below = b; taken_by = eqb-true _ _ t }))
    (λ f. either (nat_eq ((w.network).giver l) c)
    (λ t. inr (record { below = b; given_by = eqb-true _ _ t }))
    (λ g. both (is_end w c l) e (rw (f, g) refl)))

pub is_end_of : (w : Layout) (c l : ℕ) → IsLinkOf w.network c l → is_end w c l ≡ true
is_end_of w c l (inl I) = rw (eq-eqb ((w.network).taker l) c I.taken_by) refl
is_end_of w c l (inr O) = either (nat_eq ((w.network).taker l) c) (λ t. rw t refl) (λ f. rw (f, eq-eqb ((w.network).giver l) c O.given_by) refl)
