-- Each move leaves less to do, so there are not many; and where all have ended, all is done.
use Rattle.std.proofs.Common.{◌≡◌, ◌⊎◌, inl, inr, ℕ, zero, suc, ◌+◌, ◌-◌, ◌<◌, ◌≤◌, Bool, true, false, nat_eq, if◌then◌else◌, List, [], ◌∷◌, length, refl, sym, ◌∙◌, ap, subst, length-append, eqb-true, eq-eqb, arith}
use Rattle.std.proofs.lemmas.Bool.{eqb-false}
use Rattle.play_model.specs.Network.{Network, IsNetwork, IsInput, Filled, LinkState, Flow, queue, headers_of}
use Rattle.play_model.specs.Moves.{sent_on, sent_back, stepped, with_link, IsFront, CanClaim, HasNumber, IsLastStep, Can, CanAll, moved, all_moved, Move}
use Rattle.play_model.specs.Account.{HasAccount, IsSound, IsFull}
use Rattle.play_model.specs.Progress.{AllEnded, IsComplete, left_of, work_left, waiting_of, waiting, all_headers, moves_left, IsLess}
use Rattle.play_model.proofs.Queues.{either, both}
use Rattle.play_model.proofs.Sums.{sum_le, sum_less, first_decides}
use Rattle.play_model.proofs.Keeps.{done_self, done_other, ended_self, ended_other, does_some, step_keeps, move_keeps}
use Rattle.play_model.proofs.Full.{move_full}

-- ---- no component does more than its frames

within_below : (net : Network) (s : Flow) → IsNetwork net → IsSound net s → (m c : ℕ) → c < m → c < net.components → s.done c ≤ net.frames c
within_below net s W S zero c l b = absurd (omega (arith, l))
within_below net s W S (suc m) c l b = either (net.is_source c)
    (λ t. ((S.components c b).source t).0)
    (λ f.
    let w = (S.components c b).longest f in
    let k : ℕ = w.0 in
    let I : IsInput net c k = w.1 in
    let taken : (s.link k).taken ≡ s.done c = w.2 in
    let A : HasAccount net s k = S.links k I.below in
    let balance = A.balance in
    let before : net.giver k < net.taker k = W.order k I.below in
    let e : net.taker k ≡ c = I.taken_by in
    let i : s.done (net.giver k) ≤ net.frames (net.giver k) = within_below net s W S m (net.giver k) (omega arith) (omega arith) in
    let more : net.frames (net.giver k) ≤ net.frames c = subst (λ (j : ℕ). net.frames (net.giver k) ≤ net.frames j) e (W.frames k I.below) in
    omega arith)

pub within : (net : Network) (s : Flow) → IsNetwork net → IsSound net s → (c : ℕ) → c < net.components → s.done c ≤ net.frames c
within net s W S c b = within_below net s W S (suc c) c (omega arith) b

-- ---- a step leaves less work

weight_less : (frames done n : ℕ) (last : Bool) → done + n ≤ frames → (0 < n) ⊎ (last ≡ true) → (frames - (done + n)) + (if last then 0 else 1) < (frames - done) + 1
weight_less frames done n true le p = omega arith
weight_less frames done n false le (inl p) = omega arith
weight_less frames done n false le (inr e) = both false e refl

abbrev left_at : ℕ → ℕ → Bool → ℕ
left_at frames done ended = (frames - done) + (if ended then 0 else 1)

pub step_less : (net : Network) (s : Flow) (c n : ℕ) (last : Bool) → IsNetwork net → IsSound net s → CanClaim net s c → HasNumber net s c n → IsLastStep net s c n last →
    work_left net (stepped net c n last s) < work_left net s
step_less net s c n last W S C N L =
    let t : Flow = stepped net c n last s in
    let T : IsSound net t = step_keeps net s c n last W S C N L in
    let done : t.done c ≡ s.done c + n = done_self net c n last s in
    let ended : t.ended c ≡ last = ended_self net c n last s in
    let le : s.done c + n ≤ net.frames c = subst (λ (k : ℕ). k ≤ net.frames c) done (within net t W T c C.inside) in
    let was : left_of net s c ≡ (net.frames c - s.done c) + 1 = ap (left_at (net.frames c) (s.done c)) C.going in
    let is : left_of net t c ≡ left_at (net.frames c) (s.done c + n) last = ap (λ (d : ℕ). left_at (net.frames c) d (t.ended c)) done ∙ ap (left_at (net.frames c) (s.done c + n)) ended in
    let less : left_at (net.frames c) (s.done c + n) last < (net.frames c - s.done c) + 1 = weight_less (net.frames c) (s.done c) n last le (does_some net s c n last S C N L) in
    let less_here : left_of net t c < left_of net s c = rw (is, was) less in
    sum_less net.components c (left_of net t) (left_of net s) C.inside
    (λ k b. either (nat_eq k c)
    (λ e. subst (λ (j : ℕ). left_of net t j ≤ left_of net s j) (sym (eqb-true _ _ e)) (omega (arith, less_here)))
    (λ a.
    let d = eqb-false _ _ a in
    let same : left_of net t k ≡ left_of net s k =
    ap (λ (x : ℕ). left_at (net.frames k) x (t.ended k)) (done_other net c n last s k d) ∙ ap (left_at (net.frames k) (s.done k)) (ended_other net c n last s k d) in
    omega (arith, same)))
    less_here

-- ---- the other moves leave fewer headers that wait

on_waits : (x : LinkState) (q : List Filled) → x.sent ≡ q → IsFront (λ h. Unit {0}) q → length (sent_on q x).sent + (sent_on q x).spent < length x.sent + x.spent
on_waits x [] e F = absurd F
on_waits x (h ∷ q) e F = let l : length x.sent ≡ suc (length q) = ap (λ (z : List Filled). length z) e in omega arith

change_waits : (net : Network) (l : ℕ) (change : LinkState → LinkState) (s : Flow) → l < net.links →
    length (change (s.link l)).sent + (change (s.link l)).spent < length (s.link l).sent + (s.link l).spent → waiting net (with_link l change s) < waiting net s
change_waits net l change s b less =
    let t : Flow = with_link l change s in
    let here : t.link l ≡ change (s.link l) = rw (eq-eqb l l refl) refl in
    let less_here : waiting_of t l < waiting_of s l = rw here less in
    sum_less net.links l (waiting_of t) (waiting_of s) b
    (λ k d. either (nat_eq k l)
    (λ e. subst (λ (j : ℕ). waiting_of t j ≤ waiting_of s j) (sym (eqb-true _ _ e)) (omega (arith, less_here)))
    (λ a.
    let same : t.link k ≡ s.link k = rw a refl in
    let e : waiting_of t k ≡ waiting_of s k = ap (λ (x : LinkState). length x.sent + x.spent) same in
    omega (arith, e)))
    less_here

pub move_less : (net : Network) (s : Flow) (m : Move) → IsNetwork net → IsSound net s → Can net s m → IsLess net (moved net m s) s
move_less net s (Move.Step c n last) W S C = inl (step_less net s c n last W S C.0 C.1 C.2)
move_less net s (Move.Forward l) W S C = inr (refl, change_waits net l (λ x. sent_on x.sent x) s C.0 (on_waits (s.link l) (s.link l).sent refl C.1))
move_less net s (Move.Back l) W S C = inr (refl, change_waits net l sent_back s C.0 (let p = C.1 in omega arith))

-- ---- the two numbers as one

waits_few : (net : Network) (s : Flow) → IsFull net s → waiting net s ≤ all_headers net
waits_few net s F = sum_le net.links (waiting_of s) net.count (λ l b.
    let f : headers_of (s.link l) ≡ net.count l = F l b in
    let e : length (queue (s.link l)) ≡ length (s.link l).held + length (s.link l).sent = length-append (s.link l).held (s.link l).sent in
    omega arith)

pub move_counts : (net : Network) (s : Flow) (m : Move) → IsNetwork net → IsSound net s → IsFull net s → Can net s m → moves_left net (moved net m s) < moves_left net s
move_counts net s m W S F C =
    let t : Flow = moved net m s in
    elim (move_less net s m W S C) [
      | inl less ↦ first_decides (work_left net t) (work_left net s) (all_headers net) (waiting net t) (waiting net s) less (waits_few net t (move_full net s m F C))
      | inr w ↦ rw w.0 (let l = w.1 in omega arith)
    ]

pub moves_end : (net : Network) (s : Flow) (ms : List Move) → IsNetwork net → IsSound net s → IsFull net s → CanAll net s ms → moves_left net (all_moved net ms s) + length ms ≤ moves_left net s
moves_end net s [] W S F C = omega arith
moves_end net s (m ∷ ms) W S F C =
    let i = moves_end net (moved net m s) ms W (move_keeps net s m W S C.0) (move_full net s m F C.0) C.1 in
    let l = move_counts net s m W S F C.0 in
    omega arith

pub moves_keep : (net : Network) (s : Flow) (ms : List Move) → IsNetwork net → IsSound net s → CanAll net s ms → IsSound net (all_moved net ms s)
moves_keep net s [] W S C = S
moves_keep net s (m ∷ ms) W S C = moves_keep net (moved net m s) ms W (move_keeps net s m W S C.0) C.1

-- ---- where all have ended, all is done

complete_below : (net : Network) (s : Flow) → IsNetwork net → IsSound net s → AllEnded net s → (m c : ℕ) → c < m → c < net.components → s.done c ≡ net.frames c
complete_below net s W S E zero c l b = absurd (omega (arith, l))
complete_below net s W S E (suc m) c l b = either (net.is_source c)
    (λ t. ((S.components c b).source t).1 (E c b))
    (λ f.
    let w = W.longest c b f in
    let k : ℕ = w.0 in
    let I : IsInput net c k = w.1 in
    let A : HasAccount net s k = S.links k I.below in
    let closed : (s.link k).closed ≡ true = (S.components c b).over f (E c b) k I in
    let balance : s.done (net.giver k) ≡ (s.link k).taken + 0 = rw (A.after closed).0 at A.balance in
    let e : net.taker k ≡ c = I.taken_by in
    let before : net.giver k < net.taker k = W.order k I.below in
    let i : s.done (net.giver k) ≡ net.frames (net.giver k) = complete_below net s W S E m (net.giver k) (omega arith) (omega arith) in
    let behind : (s.link k).taken ≤ s.done c = subst (λ (j : ℕ). (s.link k).taken ≤ s.done j) e A.behind in
    let same : net.frames (net.giver k) ≡ net.frames c = w.2 in
    let le = within net s W S c b in
    omega arith)

pub complete : (net : Network) (s : Flow) → IsNetwork net → IsSound net s → AllEnded net s → IsComplete net s
complete net s W S E = record {
  done = λ c b. complete_below net s W S E (suc c) c (omega arith) b;
  empty = λ l b. ((S.links l b).after ((S.components (net.taker l) (W.inside l b)).over (W.unfed l b) (E (net.taker l) (W.inside l b)) l (record { below = b; taken_by = refl }))).0;
}
