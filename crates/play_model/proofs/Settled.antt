-- A link whose headers are all at home, or one of which is away.
use Rattle.std.proofs.Common.{◌≡◌, ◌⊎◌, inl, inr, ◌+◌, ◌<◌, Bool, true, false, not, ◌&&◌, nat_eq, List, [], ◌∷◌, length, refl, sym, ap, length-append, eqb-true, eq-eqb, arith}
use Rattle.std.proofs.lemmas.Bool.{eqb-false}
use Rattle.play_model.specs.Network.{Filled, LinkState, headers_of, queue}
use Rattle.play_model.specs.Moves.{IsFront}
use Rattle.play_model.proofs.Queues.{either, both}
use Rattle.play_model.proofs.Stuck.{and_true}
use Rattle.play_model.specs.Play.{IsSettled, HasDone, HasUnused, HasHome}

abbrev is_none_in : List Filled → Bool
is_none_in [] = true
is_none_in (h ∷ hs) = false

none_in : (hs : List Filled) → is_none_in hs ≡ true → hs ≡ []
none_in [] e = refl
none_in (h ∷ hs) e = both true refl (sym e)

some_in : (hs : List Filled) → is_none_in hs ≡ false → IsFront (λ h. Unit {0}) hs
some_in [] e = both true refl e
some_in (h ∷ hs) e = tt

abbrev pub is_settled : Bool → LinkState → Bool
is_settled true x = is_none_in x.held && nat_eq x.spent 0
is_settled false x = nat_eq x.ready 0 && is_none_in x.sent

pub settled_of : (out : Bool) (x : LinkState) → is_settled out x ≡ true → IsSettled out x
settled_of true x e = let a = and_true (is_none_in x.held) (nat_eq x.spent 0) e in (none_in x.held a.0, eqb-true _ _ a.1)
settled_of false x e = let a = and_true (nat_eq x.ready 0) (is_none_in x.sent) e in (eqb-true _ _ a.0, none_in x.sent a.1)

pub is_settled_of : (out : Bool) (x : LinkState) → IsSettled out x → is_settled out x ≡ true
is_settled_of true x e = rw (e.0, eq-eqb x.spent 0 e.1) refl
is_settled_of false x e = rw (e.1, eq-eqb x.ready 0 e.0) refl

pub unsettled : (out : Bool) (x : LinkState) → is_settled out x ≡ false → HasDone (not out) x ⊎ HasUnused out x
unsettled true x e = either (nat_eq x.spent 0)
    (λ t. either (is_none_in x.held)
    (λ y. both (is_settled true x) (rw (y, t) refl) e)
    (λ z. inr (eqb-true _ _ t, some_in x.held z)))
    (λ f. let d = eqb-false _ _ f in inl (omega arith))
unsettled false x e = either (is_none_in x.sent)
    (λ t. either (nat_eq x.ready 0)
    (λ y. both (is_settled false x) (rw (y, t) refl) e)
    (λ z. let d = eqb-false _ _ z in inr (none_in x.sent t, omega arith)))
    (λ f. inl (some_in x.sent f))

pub home_of : (out : Bool) (x : LinkState) → IsSettled out x → 0 < headers_of x → HasHome out x
home_of true x S h =
    let a : length (queue x) ≡ length x.held + length x.sent = length-append x.held x.sent in
    let z : length x.held ≡ 0 = ap length S.0 in
    let y : x.spent ≡ 0 = S.1 in
    omega arith
home_of false x S h =
    let a : length (queue x) ≡ length x.held + length x.sent = length-append x.held x.sent in
    let z : length x.sent ≡ 0 = ap length S.1 in
    let y : x.ready ≡ 0 = S.0 in
    omega arith
