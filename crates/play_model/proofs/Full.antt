-- Each move keeps how many headers a link has; and the flow in which nothing was done yet is sound.
use Rattle.std.proofs.Common.{◌≡◌, ℕ, suc, ◌+◌, ◌<◌, Bool, nat_eq, nat_le, List, [], ◌∷◌, ◌++◌, length, refl, sym, ◌∙◌, ap, subst, length-append, eqb-true, arith}
use Rattle.std.proofs.lemmas.Bool.{eqb-false}
use Rattle.play_model.specs.Network.{Network, IsNetwork, Filled, LinkState, Flow, queue, frames_in, headers_of}
use Rattle.play_model.specs.Moves.{sent_on, sent_back, took, took_front, gave, with_link, Can, moved, Move}
use Rattle.play_model.specs.Account.{IsSound, IsFull, IsOpening}
use Rattle.play_model.proofs.Queues.{either, both}
use Rattle.play_model.proofs.Keeps.{took_closed, took_going, link_in, link_out, link_else, on_same}

front_headers : (n : ℕ) (hs : List Filled) (x : LinkState) → x.held ≡ hs → headers_of (took_front n hs x) ≡ headers_of x
front_headers n [] x e = refl
front_headers n (h ∷ rest) x e =
    let long : length (queue x) ≡ suc (length (rest ++ x.sent)) = ap (λ (z : List Filled). length (z ++ x.sent)) e in
    either (nat_le h.frames n) (λ t. rw t (omega arith)) (λ f. rw f (omega arith))

took_headers : (n : ℕ) (x : LinkState) → headers_of (took n x) ≡ headers_of x
took_headers n x = either x.closed
    (λ t. ap headers_of (took_closed n x t))
    (λ f. ap headers_of (took_going n x f) ∙ front_headers n x.held x refl)

gave_headers : (n : ℕ) (last : Bool) (x : LinkState) → 0 < x.ready → headers_of (gave n last x) ≡ headers_of x
gave_headers n last x p =
    let b : Filled = record { frames = n; last = last } in
    let a : length (x.held ++ (x.sent ++ b ∷ [])) ≡ length x.held + length (x.sent ++ b ∷ []) = length-append x.held (x.sent ++ b ∷ []) in
    let d : length (x.sent ++ b ∷ []) ≡ length x.sent + 1 = length-append x.sent (b ∷ []) in
    let e : length (queue x) ≡ length x.held + length x.sent = length-append x.held x.sent in
    omega arith

on_headers_of : (x : LinkState) (q : List Filled) → x.sent ≡ q → headers_of (sent_on q x) ≡ headers_of x
on_headers_of x q e = let h : length (queue (sent_on q x)) ≡ length (queue x) = ap (λ (z : List Filled). length z) ((on_same x q e).filled) in on_rest x q h
  where
    on_rest : (x : LinkState) (q : List Filled) → length (queue (sent_on q x)) ≡ length (queue x) → headers_of (sent_on q x) ≡ headers_of x
    on_rest x [] h = refl
    on_rest x (a ∷ q) h = omega arith

on_headers : (x : LinkState) → headers_of (sent_on x.sent x) ≡ headers_of x
on_headers x = on_headers_of x x.sent refl

change_headers : (l : ℕ) (change : LinkState → LinkState) (s : Flow) → headers_of (change (s.link l)) ≡ headers_of (s.link l) → (k : ℕ) → headers_of ((with_link l change s).link k) ≡ headers_of (s.link k)
change_headers l change s h k = either (nat_eq k l)
    (λ t. rw t (subst (λ (j : ℕ). headers_of (change (s.link j)) ≡ headers_of (s.link j)) (sym (eqb-true _ _ t)) h))
    (λ f. rw f refl)

pub move_headers : (net : Network) (s : Flow) (m : Move) → Can net s m → (l : ℕ) → l < net.links → headers_of ((moved net m s).link l) ≡ headers_of (s.link l)
move_headers net s (Move.Step c n last) C l b = either (nat_eq (net.taker l) c)
    (λ t. ap headers_of (link_in net c n last s l (eqb-true _ _ t)) ∙ took_headers n (s.link l))
    (λ f. either (nat_eq (net.giver l) c)
    (λ t. let e : net.giver l ≡ c = eqb-true _ _ t in
    ap headers_of (link_out net c n last s l (eqb-false _ _ f) e) ∙ gave_headers n last (s.link l) (C.0.outputs l (record { below = b; given_by = e })))
    (λ g. ap headers_of (link_else net c n last s l (eqb-false _ _ f) (eqb-false _ _ g))))
move_headers net s (Move.Forward l) C k b = change_headers l (λ x. sent_on x.sent x) s (on_headers (s.link l)) k
move_headers net s (Move.Back l) C k b = change_headers l sent_back s (let p = C.1 in omega arith) k

pub move_full : (net : Network) (s : Flow) (m : Move) → IsFull net s → Can net s m → IsFull net (moved net m s)
move_full net s m F C l b = move_headers net s m C l b ∙ F l b

pub opening_sound : (net : Network) (s : Flow) → IsNetwork net → IsOpening net s → IsSound net s
opening_sound net s W O = record {
  links = λ l b. record {
    balance = let q : frames_in (queue (s.link l)) ≡ 0 = ap frames_in (O.empty l) in omega (arith, O.done (net.giver l), O.taken l);
    level = λ _. omega (arith, O.taken l, O.done (net.taker l));
    behind = omega (arith, O.taken l);
    ends = λ _. rw (O.empty l) (O.going (net.giver l));
    after = λ t. both (s.link l).closed t (O.open_ l);
    carries = rw (O.empty l) tt;
  };
  components = λ c b. record {
    source = λ z. (omega (arith, O.done c), λ e. both (s.ended c) e (O.going c));
    over = λ f e. both (s.ended c) e (O.going c);
    going = λ f _. let w = W.longest c b f in (w.0, w.1, O.open_ w.0);
    longest = λ f. let w = W.longest c b f in (w.0, w.1, O.taken w.0 ∙ sym (O.done c));
  };
}
