-- hand_over, and hand_back of a header of done, in a play's world.
use Rattle.std.proofs.Common.{◌≡◌, ℕ, suc, ◌<◌, Bool, true, false, List, [], ◌∷◌, length, map, refl, sym, ◌∙◌, ap, subst, arith}
use Rattle.il_machine.specs.declared.port.PortKey.{PortKey}
use Rattle.il_machine.specs.Lists.{is_empty}
use Rattle.play_model.specs.Network.{Filled, LinkState}
use Rattle.play_model.specs.Moves.{IsFront}
use Rattle.play_model.specs.Play.{HasDone}
use Rattle.play_world_laws.specs.Cast.{home_by}

-- ---- the list done of an end

done_some : {A : Type 0} (xs : List A) → 0 < length xs → (n : A) × (ns : List A) × (xs ≡ n ∷ ns)
done_some [] l = absurd (omega arith)
done_some (n ∷ ns) l = (n, ns, refl)

front_some : (q : List Filled) (f : ℕ → Filled) (xs : List ℕ) → q ≡ map f xs → IsFront (λ h. Unit {0}) q → 0 < length xs
front_some q f [] e h = let z : IsFront (λ h. Unit {0}) [] = subst (λ (y : List Filled). IsFront (λ h. Unit {0}) y) e h in absurd z
front_some q f (x ∷ xs) e h = omega arith

some_front : (q : List Filled) (f : ℕ → Filled) (xs : List ℕ) (n : ℕ) (ns : List ℕ) → q ≡ map f xs → xs ≡ n ∷ ns → IsFront (λ h. Unit {0}) q
some_front q f xs n ns e s = subst (λ (y : List Filled). IsFront (λ h. Unit {0}) y) (sym (e ∙ ap (map f) s)) tt

-- which of a link's two lists done is that of the end
pub done_by : (by : Bool) (y : LinkState) (f : ℕ → Filled) (lists : PortKey → List ℕ) (o i : PortKey) → y.sent ≡ map f (lists o) → y.spent ≡ length (lists i) → HasDone by y → (n : ℕ) × (ns : List ℕ) × (lists (home_by by o i) ≡ n ∷ ns)
done_by true y f lists o i s t H = done_some (lists o) (front_some y.sent f (lists o) s H)
done_by false y f lists o i s t H = done_some (lists i) (omega (arith, t, H))

pub by_done : (by : Bool) (y : LinkState) (f : ℕ → Filled) (lists : PortKey → List ℕ) (o i : PortKey) (n : ℕ) (ns : List ℕ) → y.sent ≡ map f (lists o) → y.spent ≡ length (lists i) → lists (home_by by o i) ≡ n ∷ ns → HasDone by y
by_done true y f lists o i n ns s t e = some_front y.sent f (lists o) n ns s e
by_done false y f lists o i n ns s t e = let l : length (lists i) ≡ suc (length ns) = ap length e in omega (arith, t, l)

pub not_empty : {A : Type 0} (xs : List A) → is_empty xs ≡ false → (n : A) × (ns : List A) × (xs ≡ n ∷ ns)
not_empty [] e = absurd cc
not_empty (n ∷ ns) e = (n, ns, refl)
