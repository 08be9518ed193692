-- Headers move from one end of a tunnel to the other: what the stock stands for then.
use Rattle.std.proofs.Common.{◌≡◌, ℕ, Bool, true, false, not, List, [], ◌∷◌, drop, slice_get, Some, None, refl, sym, ◌∙◌, ap, subst}
use Rattle.std.proofs.lemmas.Bool.{and_parts}
use Rattle.il_machine.specs.declared.port.PortKey.{PortKey}
use Rattle.il_machine.specs.declared.header.Spot.{Spot}
use Rattle.il_machine.specs.declared.header.Spot.TheVariants.{TodoBack}
use Rattle.il_machine.specs.World.{HeaderRecord, Load, World}
use Rattle.il_machine.specs.Lists.{holds_at, is_empty}
use Rattle.il_machine.specs.Headers.{Seen, seen, find_header, is_for, in_todo, unloaded, put, cleared, unchanged, Once}
use Rattle.il_machine.specs.Buffers.{load_in}
use Rattle.il_machine.specs.Flow.{front_put, returned, supplied_spot}
use Rattle.il_machine.specs.Stock.{Stocked, StandsFor, pushed, todo_pulled, todo_front_pulled, done_pulled}
use Rattle.machine_laws.proofs.Replacing.{replaced_put}
use Rattle.machine_laws.proofs.Listed.{AreIn}
use Rattle.stock_laws.proofs.Composed.{pull_put_cleared, send_put_back}
use Rattle.header_core.specs.BufferHeader.{BufferHeader}
use Rattle.port_stock.specs.Conditions.{IsFrom}
use Rattle.port_stock.specs.Passing.{AreDoneFor, IsPassed}
use Rattle.graph_core.specs.Moving.{AreShared, Moves}
use Rattle.port_rules.proofs.Noticed.{IsNoted, another}
use Rattle.flush_mark.proofs.ResetSteps.{front_is, no_front, made_out, pulled_is, sent_is}

-- ---- the change is one of headers alone, and leaves those in notices as they are

pub put_alone : (key : PortKey) (spot : Spot) (change : HeaderRecord → HeaderRecord) (ns : List ℕ) (w : World) → front_put key spot change ns w ≡ record w { headers = (front_put key spot change ns w).headers }
put_alone key spot change [] w = refl
put_alone key spot change (n ∷ ns) w = refl

pub returned_alone : (supplier : PortKey) (input : Bool) (done todo : List ℕ) (w : World) → returned supplier input done todo w ≡ record w { headers = (returned supplier input done todo w).headers }
returned_alone supplier input [] todo w = put_alone supplier (supplied_spot (not input)) cleared todo w
returned_alone supplier input (n ∷ ns) todo w = refl

pub put_keeps : (key peer : PortKey) (spot : Spot) (change : HeaderRecord → HeaderRecord) (ns : List ℕ) (w : World) (m : ℕ) → ((r : HeaderRecord) → (change r).state ≡ r.state) → Once w.headers → AreIn key w.headers ns → IsNoted w.headers m
    → find_header m (front_put peer spot change ns w).headers ≡ find_header m w.headers
put_keeps key peer spot change [] w m keeps o A N = refl
put_keeps key peer spot change (n ∷ ns) w m keeps o A N =
    let I = A.0 in
    (replaced_put peer spot change (λ r. ap (λ s. s.number) (keeps r)) n w.headers I.header o I.found).others m (another key w.headers m n N I)

pub returned_keeps : (key supplier : PortKey) (input : Bool) (done todo : List ℕ) (w : World) (m : ℕ) → Once w.headers → AreIn key w.headers done → AreIn key w.headers todo → IsNoted w.headers m
    → find_header m (returned supplier input done todo w).headers ≡ find_header m w.headers
returned_keeps key supplier input [] todo w m o A B N = put_keeps key supplier (supplied_spot (not input)) cleared todo w m (λ r. refl) o B N
returned_keeps key supplier input (n ∷ ns) todo w m o A B N = put_keeps key supplier TodoBack unchanged (n ∷ ns) w m (λ r. refl) o A N

-- ---- nothing moves

pub stays : (change : World → World) (s t : Stocked) → t ≡ s → ((w : World) → StandsFor s w.headers → change w ≡ w) → Moves change s t
stays change s t q same = subst (λ (x : Stocked). Moves change s x) (sym q) (record {
  stands = λ w S. subst (λ (v : World). StandsFor s v.headers) (sym (same w S)) S;
  key = refl;
  ports = refl;
  next = refl;
})

-- ---- the front of done goes to the other port as it is

pub shared_done : (s : Stocked) (key peer : PortKey) → AreShared key peer s → AreDoneFor key peer s
shared_done s key peer B n h e i = B n h e (and_parts _ _ i).1

module _ (s : Stocked) (key peer : PortKey) (n : ℕ) (rest : List ℕ) (load : Load) (done_is : s.headers.done key ≡ n ∷ rest) (carried : s.loads n ≡ Some load) where
  abbrev after_sent : Stocked
  after_sent = pushed peer TodoBack n load (done_pulled key s)

  world_done : (w : World) → StandsFor s w.headers → (seen w.headers).done key ≡ n ∷ rest
  world_done w S = ap (λ (x : Seen). x.done key) S.looks ∙ done_is

  sent_as : (F : List ℕ → World → World) → ((w : World) → F (n ∷ rest) w ≡ record w { headers = put peer TodoBack n unchanged w.headers }) → (t : Stocked) → t ≡ after_sent → Moves (λ w. F ((seen w.headers).done key) w) s t
  sent_as F f t q = subst (λ (x : Stocked). Moves (λ w. F ((seen w.headers).done key) w) s x) (sym q) (record {
    stands = λ w S. subst (λ (v : World). StandsFor after_sent v.headers) (sym (ap (λ (ns : List ℕ). F ns w) (world_done w S) ∙ f w)) (send_put_back s w.headers key peer TodoBack n rest load S done_is carried);
    key = ap (λ (x : Stocked). x.key) (sent_is s key n rest done_is);
    ports = ap (λ (x : Stocked). x.ports) (sent_is s key n rest done_is);
    next = ap (λ (x : Stocked). x.next) (sent_is s key n rest done_is);
  })

pub passed_on : (s t : Stocked) (key peer : PortKey) (ns : List ℕ) → s.headers.done key ≡ ns → IsPassed key peer TodoBack ns s t → Moves (λ w. front_put peer TodoBack unchanged ((seen w.headers).done key) w) s t
passed_on s t key peer [] e P =
    stays (λ w. front_put peer TodoBack unchanged ((seen w.headers).done key) w) s t P (λ w S. ap (λ (ns : List ℕ). front_put peer TodoBack unchanged ns w) (ap (λ (x : Seen). x.done key) S.looks ∙ e))
passed_on s t key peer (n ∷ rest) e P = sent_as s key peer n rest P.0 e P.1 (front_put peer TodoBack unchanged) (λ w. refl) t P.2

-- the front of done goes back, where there is one
pub sent_back : (s t : Stocked) (key supplier : PortKey) (input : Bool) (ns : List ℕ) → s.headers.done key ≡ ns → true ≡ not (is_empty ns) → IsPassed key supplier TodoBack ns s t
    → Moves (λ w. returned supplier input ((seen w.headers).done key) ((seen w.headers).todo key) w) s t
sent_back s t key supplier input [] e some P = absurd cc
sent_back s t key supplier input (n ∷ rest) e some P = sent_as s key supplier n rest P.0 e P.1 (λ ns w. returned supplier input ns ((seen w.headers).todo key) w) (λ w. refl) t P.2

-- where there is none nothing changed
pub none_sent : (s t : Stocked) (key peer : PortKey) (ns : List ℕ) → s.headers.done key ≡ ns → false ≡ not (is_empty ns) → IsPassed key peer TodoBack ns s t → (s.headers.done key ≡ []) × (t ≡ s)
none_sent s t key peer [] e none P = (e, P)
none_sent s t key peer (n ∷ rest) e none P = absurd cc

-- ---- where done is empty the front of todo goes to the supplier, cleared

module _ (s : Stocked) (key supplier : PortKey) (input : Bool) (none : s.headers.done key ≡ []) where
  abbrev back : World → World
  back w = returned supplier input ((seen w.headers).done key) ((seen w.headers).todo key) w

  unsent : (w : World) → StandsFor s w.headers → back w ≡ front_put supplier (supplied_spot (not input)) cleared ((seen w.headers).todo key) w
  unsent w S = ap (λ (ns : List ℕ). returned supplier input ns ((seen w.headers).todo key) w) (ap (λ (x : Seen). x.done key) S.looks ∙ none)

  pub none_back : (t : Stocked) → t ≡ todo_pulled key s → None ≡ slice_get (s.headers.todo key) 0 → Moves back s t
  none_back t q front =
      let e : s.headers.todo key ≡ [] = no_front (s.headers.todo key) front in
      stays back s t (q ∙ ap (λ (ns : List ℕ). todo_front_pulled key ns s) e)
      (λ w S. unsent w S ∙ ap (λ (ns : List ℕ). front_put supplier (supplied_spot (not input)) cleared ns w) (ap (λ (x : Seen). x.todo key) S.looks ∙ e))

  module _ (B : AreShared key supplier s) (header : BufferHeader) (front : Some header.held.number ≡ slice_get (s.headers.todo key) 0) (was : IsFrom (in_todo key) header s) where
    abbrev m : ℕ
    m = header.held.number

    abbrev left : List ℕ
    left = drop 1 (s.headers.todo key)

    todo_is : s.headers.todo key ≡ m ∷ left
    todo_is = front_is (s.headers.todo key) m front

    pub pulled_for_supplier : holds_at ((todo_pulled key s).headers.header m) (is_for supplier) ≡ true
    pulled_for_supplier = rw (pulled_is s key m left todo_is) (made_out m supplier (s.headers.header m) (in_todo key) s.headers.header (λ h x y. B m h x (and_parts _ _ y).1) was.0)

    abbrev after_pull : Stocked
    after_pull = pushed supplier (supplied_spot (not input)) m (unloaded (load_in header.held)) (todo_pulled key s)

    pushed_key : (spot : Spot) → (pushed supplier spot m (unloaded (load_in header.held)) (todo_pulled key s)).key ≡ s.key
    pushed_key spot = ap (λ (x : Stocked). x.key) (pulled_is s key m left todo_is)

    pushed_ports : (spot : Spot) → (pushed supplier spot m (unloaded (load_in header.held)) (todo_pulled key s)).ports ≡ s.ports
    pushed_ports spot = ap (λ (x : Stocked). x.ports) (pulled_is s key m left todo_is)

    pushed_next : (spot : Spot) → (pushed supplier spot m (unloaded (load_in header.held)) (todo_pulled key s)).next ≡ s.next
    pushed_next spot = ap (λ (x : Stocked). x.next) (pulled_is s key m left todo_is)

    pub unused_back : (t : Stocked) → t ≡ after_pull → Moves back s t
    unused_back t q = subst (λ (x : Stocked). Moves back s x) (sym q) (record {
      stands = λ w S.
          let e : (seen w.headers).todo key ≡ m ∷ left = ap (λ (x : Seen). x.todo key) S.looks ∙ todo_is in
          subst (λ (v : World). StandsFor after_pull v.headers) (sym (unsent w S ∙ ap (λ (ns : List ℕ). front_put supplier (supplied_spot (not input)) cleared ns w) e))
          (pull_put_cleared s w.headers key supplier (supplied_spot (not input)) m left (load_in header.held) S todo_is was.1);
      key = pushed_key (supplied_spot (not input));
      ports = pushed_ports (supplied_spot (not input));
      next = pushed_next (supplied_spot (not input));
    })
