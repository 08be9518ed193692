-- A header that goes to a work stays at the front of its port's todo, as its link is seen; what lands is the link's change.
use Rattle.std.proofs.Common.{◌≡◌, ◌≢◌, ℕ, suc, ◌+◌, ◌-◌, false, nat_eq, List, [], ◌∷◌, ◌++◌, length, map, Some, option_map, refl, sym, ◌∙◌, ap, subst, length-append, eqb-true, arith}
use Rattle.std.proofs.lemmas.Bool.{eqb-false}
use Rattle.il_machine.specs.declared.port.PortKey.{PortKey}
use Rattle.il_machine.specs.declared.header.Owner.{Owner}
use Rattle.il_machine.specs.declared.header.Spot.{Spot}
use Rattle.il_machine.specs.declared.header.Spot.TheVariants as spots
use Rattle.il_machine.specs.World.{HeaderRecord, Load}
use Rattle.il_machine.specs.Headers.{Seen, seen, load_at, load_of, state_of, find_header, put, put_at, changed, given_to, loaded, is_state, in_todo, same_key, Once}
use Rattle.il_machine.specs.Stock.{StandsFor, pushed, todo_pulled, header_given}
use Rattle.machine_laws.proofs.Finding.{either, changed_same, changed_else}
use Rattle.machine_laws.proofs.Replacing.{IsReplaced, replaced_put}
use Rattle.stock_laws.proofs.Keys.{same_key-sym, same_key-refl}
use Rattle.stock_laws.proofs.Leaving.{Fronts, fronts}
use Rattle.stock_laws.proofs.Standing.{push_stands}
use Rattle.stock_laws.proofs.Composed.{pull_give_on}
use Rattle.play_world_laws.specs.View.{LinkEnds, filled_by, filled, link_view, is_in}
use Rattle.play_world_laws.specs.Tunnel.{IsOutAt}
use Rattle.play_world_laws.proofs.Same.{stock_of, stands_of, in_append, map_push, filled_off, filled_all, link_same, elsewhere_todo, elsewhere_done, IsMoved, beside_same}

-- ---- a header goes out

pub record IsGiven (key : PortKey) (n : ℕ) (ns : List ℕ) (hs ks : List HeaderRecord) : Type 0 where
  pub once : Once ks
  pub gone : (seen ks).todo key ≡ ns
  pub todo : (k : PortKey) → same_key k key ≡ false → (seen ks).todo k ≡ (seen hs).todo k
  pub done : (k : PortKey) → (seen ks).done k ≡ (seen hs).done k
  pub loads : (m : ℕ) → load_at m ks ≡ load_at m hs

module _ (owner : Owner) (key : PortKey) (n : ℕ) (ns : List ℕ) (hs : List HeaderRecord) (o : Once hs) (e : (seen hs).todo key ≡ n ∷ ns) where
  pub is_given : IsGiven key n ns hs (changed n (given_to owner) hs)
  is_given =
      let ks : List HeaderRecord = changed n (given_to owner) hs in
      let F : Fronts (is_state (in_todo key)) n hs = fronts (is_state (in_todo key)) n ns hs o e in
      let S : StandsFor (header_given n owner (todo_pulled key (stock_of hs))) ks = pull_give_on (stock_of hs) hs key owner n ns (stands_of hs o) e in
      let here : find_header n ks ≡ Some (given_to owner F.it) = changed_same (given_to owner) (λ r. refl) n hs F.it F.is in
      record {
        once = S.once;
        gone = ap (λ (s : Seen). s.todo key) S.looks ∙ rw (e, same_key-refl key) refl;
        todo = λ k f. ap (λ (s : Seen). s.todo k) S.looks ∙ rw (e, f) refl;
        done = λ k. ap (λ (s : Seen). s.done k) S.looks ∙ rw e refl;
        loads = λ m. either (nat_eq m n)
            (λ t. let q : m ≡ n = eqb-true _ _ t in subst (λ (k : ℕ). option_map load_of (find_header k ks) ≡ option_map load_of (find_header k hs)) (sym q) (rw (here, F.is) refl))
            (λ f. ap (option_map load_of) (changed_else (given_to owner) (λ r. refl) n m hs (eqb-false _ _ f)));
      }

module _ (owner : Owner) (x : LinkEnds) (hs : List HeaderRecord) (n : ℕ) (ns : List ℕ) (o : Once hs) (a : same_key x.input x.output ≡ false) where
  pub claim_output : (seen hs).todo x.output ≡ n ∷ ns → link_view (record x { filling = n ∷ x.filling }) (changed n (given_to owner) hs) ≡ link_view x hs
  claim_output e =
      let ks : List HeaderRecord = changed n (given_to owner) hs in
      let G : IsGiven x.output n ns hs ks = is_given owner x.output n ns hs o e in
      let gone : length ((seen ks).todo x.output) ≡ length ns = ap length G.gone in
      let was : length ((seen hs).todo x.output) ≡ suc (length ns) = ap length e in
      link_same (link_view (record x { filling = n ∷ x.filling }) ks) (link_view x hs)
      (omega arith)
      (filled_all x.unit hs ks ((seen ks).done x.output) G.loads ∙ ap (map (filled x.unit hs)) (G.done x.output))
      (filled_all x.unit hs ks (x.draining ++ (seen ks).todo x.input) G.loads ∙ ap (λ (l : List ℕ). map (filled x.unit hs) (x.draining ++ l)) (G.todo x.input a))
      (ap length (G.done x.input))
      refl refl

  pub claim_input : x.draining ≡ [] → (seen hs).todo x.input ≡ n ∷ ns → link_view (record x { draining = n ∷ [] }) (changed n (given_to owner) hs) ≡ link_view x hs
  claim_input d e =
      let ks : List HeaderRecord = changed n (given_to owner) hs in
      let G : IsGiven x.input n ns hs ks = is_given owner x.input n ns hs o e in
      let held : n ∷ (seen ks).todo x.input ≡ x.draining ++ (seen hs).todo x.input = rw (d, G.gone, e) refl in
      link_same (link_view (record x { draining = n ∷ [] }) ks) (link_view x hs)
      (ap (λ (l : List ℕ). length x.filling + length l) (G.todo x.output (same_key-sym x.output x.input ∙ a)))
      (filled_all x.unit hs ks ((seen ks).done x.output) G.loads ∙ ap (map (filled x.unit hs)) (G.done x.output))
      (filled_all x.unit hs ks (n ∷ (seen ks).todo x.input) G.loads ∙ ap (map (filled x.unit hs)) held)
      (ap length (G.done x.input))
      refl refl

  pub claim_beside : (key : PortKey) → same_key x.output key ≡ false → same_key x.input key ≡ false → (seen hs).todo key ≡ n ∷ ns → link_view x (changed n (given_to owner) hs) ≡ link_view x hs
  claim_beside key p q e =
      let ks : List HeaderRecord = changed n (given_to owner) hs in
      let G : IsGiven key n ns hs ks = is_given owner key n ns hs o e in
      link_same (link_view x ks) (link_view x hs)
      (ap (λ (l : List ℕ). length x.filling + length l) (G.todo x.output p))
      (filled_all x.unit hs ks ((seen ks).done x.output) G.loads ∙ ap (map (filled x.unit hs)) (G.done x.output))
      (filled_all x.unit hs ks (x.draining ++ (seen ks).todo x.input) G.loads ∙ ap (λ (l : List ℕ). map (filled x.unit hs) (x.draining ++ l)) (G.todo x.input q))
      (ap length (G.done x.input))
      refl refl

-- ---- a header lands

record IsLanded (key : PortKey) (spot : Spot) (n : ℕ) (load : Load) (hs ks : List HeaderRecord) : Type 0 where
  once : Once ks
  looks : seen ks ≡ (pushed key spot n load (stock_of hs)).headers
  off : (m : ℕ) → m ≢ n → load_at m ks ≡ load_at m hs
  here : load_at n ks ≡ Some load
  no_todo : (k : PortKey) → is_in n ((seen hs).todo k) ≡ false
  no_done : (k : PortKey) → is_in n ((seen hs).done k) ≡ false

is_landed : (number : ℕ) (key : PortKey) (spot : Spot) (n : ℕ) (load : Load) (hs : List HeaderRecord) → Once hs → IsOutAt number n hs → IsLanded key spot n load hs (put key spot n (loaded load) hs)
is_landed number key spot n load hs o A =
    let ks : List HeaderRecord = put key spot n (loaded load) hs in
    let r : HeaderRecord = A.header in
    let S : StandsFor (pushed key spot n load (stock_of hs)) ks = push_stands (stock_of hs) hs key spot n load r.state (stands_of hs o) (ap (option_map state_of) A.found) A.out in
    let R : IsReplaced n r (put_at key spot (loaded load r)) hs ks = replaced_put key spot (loaded load) (λ _. refl) n hs r o A.found in
    record {
      once = S.once;
      looks = S.looks;
      off = λ m d. ap (option_map load_of) (R.others m d);
      here = ap (option_map load_of) R.here;
      no_todo = λ k. elsewhere_todo n hs r k o A.found (rw A.owner refl);
      no_done = λ k. elsewhere_done n hs r k o A.found (rw A.owner refl);
    }

module _ (number : ℕ) (x : LinkEnds) (hs : List HeaderRecord) (n : ℕ) (load : Load) (o : Once hs) (A : IsOutAt number n hs) (a : same_key x.input x.output ≡ false) where
  back_a : same_key x.output x.input ≡ false
  back_a = same_key-sym x.output x.input ∙ a

  -- an output's header was filled
  pub land_sent : is_in n x.draining ≡ false → x.filling ≡ n ∷ [] → link_view (record x { filling = [] }) (put x.output spots.DoneBack n (loaded load) hs)
      ≡ record (link_view x hs) { ready = (link_view x hs).ready - 1; sent = (link_view x hs).sent ++ filled_by x.unit load ∷ [] }
  land_sent d f =
      let ks : List HeaderRecord = put x.output spots.DoneBack n (loaded load) hs in
      let L : IsLanded x.output spots.DoneBack n load hs ks = is_landed number x.output spots.DoneBack n load hs o A in
      let done : (seen ks).done x.output ≡ (seen hs).done x.output ++ n ∷ [] = ap (λ (s : Seen). s.done x.output) L.looks ∙ rw (same_key-refl x.output) refl in
      let ready : length ((seen ks).todo x.output) ≡ length ((seen hs).todo x.output) = ap (λ (s : Seen). length (s.todo x.output)) L.looks in
      let held : (seen ks).todo x.input ≡ (seen hs).todo x.input = ap (λ (s : Seen). s.todo x.input) L.looks in
      let one : length x.filling ≡ 1 = ap length f in
      let old : map (filled x.unit ks) ((seen hs).done x.output) ≡ map (filled x.unit hs) ((seen hs).done x.output) = filled_off x.unit hs ks n ((seen hs).done x.output) (L.no_done x.output) L.off in
      link_same (link_view (record x { filling = [] }) ks) (record (link_view x hs) { ready = (link_view x hs).ready - 1; sent = (link_view x hs).sent ++ filled_by x.unit load ∷ [] })
      (omega arith)
      (ap (map (filled x.unit ks)) done ∙ (map_push (filled x.unit ks) ((seen hs).done x.output) n ∙ rw (old, L.here) refl))
      (ap (λ (l : List ℕ). map (filled x.unit ks) (x.draining ++ l)) held ∙ filled_off x.unit hs ks n (x.draining ++ (seen hs).todo x.input) (in_append n x.draining ((seen hs).todo x.input) d (L.no_todo x.input)) L.off)
      (ap length (ap (λ (s : Seen). s.done x.input) L.looks ∙ rw a refl))
      refl refl

  -- an output's header comes back as it was
  pub land_ready : is_in n x.draining ≡ false → x.filling ≡ n ∷ [] → link_view (record x { filling = [] }) (put x.output spots.TodoFront n (loaded load) hs) ≡ link_view x hs
  land_ready d f =
      let ks : List HeaderRecord = put x.output spots.TodoFront n (loaded load) hs in
      let L : IsLanded x.output spots.TodoFront n load hs ks = is_landed number x.output spots.TodoFront n load hs o A in
      let todo : (seen ks).todo x.output ≡ n ∷ (seen hs).todo x.output = ap (λ (s : Seen). s.todo x.output) L.looks ∙ rw (same_key-refl x.output) refl in
      let ready : length ((seen ks).todo x.output) ≡ suc (length ((seen hs).todo x.output)) = ap length todo in
      let held : (seen ks).todo x.input ≡ (seen hs).todo x.input = ap (λ (s : Seen). s.todo x.input) L.looks ∙ rw a refl in
      let one : length x.filling ≡ 1 = ap length f in
      link_same (link_view (record x { filling = [] }) ks) (link_view x hs)
      (omega arith)
      (ap (λ (s : Seen). map (filled x.unit ks) (s.done x.output)) L.looks ∙ filled_off x.unit hs ks n ((seen hs).done x.output) (L.no_done x.output) L.off)
      (ap (λ (l : List ℕ). map (filled x.unit ks) (x.draining ++ l)) held ∙ filled_off x.unit hs ks n (x.draining ++ (seen hs).todo x.input) (in_append n x.draining ((seen hs).todo x.input) d (L.no_todo x.input)) L.off)
      (ap (λ (s : Seen). length (s.done x.input)) L.looks)
      refl refl

  -- an input's header is spent
  pub land_spent : x.draining ≡ n ∷ [] → link_view (record x { draining = [] }) (put x.input spots.DoneBack n (loaded load) hs)
      ≡ record (link_view x hs) { held = map (filled x.unit hs) ((seen hs).todo x.input); spent = (link_view x hs).spent + 1 }
  land_spent f =
      let ks : List HeaderRecord = put x.input spots.DoneBack n (loaded load) hs in
      let L : IsLanded x.input spots.DoneBack n load hs ks = is_landed number x.input spots.DoneBack n load hs o A in
      let spent : length ((seen ks).done x.input) ≡ length ((seen hs).done x.input) + 1 = ap length (ap (λ (s : Seen). s.done x.input) L.looks ∙ rw (same_key-refl x.input) refl) ∙ length-append ((seen hs).done x.input) (n ∷ []) in
      let sent : (seen ks).done x.output ≡ (seen hs).done x.output = ap (λ (s : Seen). s.done x.output) L.looks ∙ rw back_a refl in
      link_same (link_view (record x { draining = [] }) ks) (record (link_view x hs) { held = map (filled x.unit hs) ((seen hs).todo x.input); spent = (link_view x hs).spent + 1 })
      (ap (λ (s : Seen). length x.filling + length (s.todo x.output)) L.looks)
      (ap (map (filled x.unit ks)) sent ∙ filled_off x.unit hs ks n ((seen hs).done x.output) (L.no_done x.output) L.off)
      (ap (λ (s : Seen). map (filled x.unit ks) (s.todo x.input)) L.looks ∙ filled_off x.unit hs ks n ((seen hs).todo x.input) (L.no_todo x.input) L.off)
      spent
      refl refl

  -- an input's header comes back with what is left
  pub land_held : x.draining ≡ n ∷ [] → link_view (record x { draining = [] }) (put x.input spots.TodoFront n (loaded load) hs)
      ≡ record (link_view x hs) { held = filled_by x.unit load ∷ map (filled x.unit hs) ((seen hs).todo x.input) }
  land_held f =
      let ks : List HeaderRecord = put x.input spots.TodoFront n (loaded load) hs in
      let L : IsLanded x.input spots.TodoFront n load hs ks = is_landed number x.input spots.TodoFront n load hs o A in
      let held : (seen ks).todo x.input ≡ n ∷ (seen hs).todo x.input = ap (λ (s : Seen). s.todo x.input) L.looks ∙ rw (same_key-refl x.input) refl in
      let old : map (filled x.unit ks) ((seen hs).todo x.input) ≡ map (filled x.unit hs) ((seen hs).todo x.input) = filled_off x.unit hs ks n ((seen hs).todo x.input) (L.no_todo x.input) L.off in
      link_same (link_view (record x { draining = [] }) ks) (record (link_view x hs) { held = filled_by x.unit load ∷ map (filled x.unit hs) ((seen hs).todo x.input) })
      (ap (λ (l : List ℕ). length x.filling + length l) (ap (λ (s : Seen). s.todo x.output) L.looks ∙ rw back_a refl))
      (ap (λ (s : Seen). map (filled x.unit ks) (s.done x.output)) L.looks ∙ filled_off x.unit hs ks n ((seen hs).done x.output) (L.no_done x.output) L.off)
      (ap (map (filled x.unit ks)) held ∙ rw (old, L.here) refl)
      (ap (λ (s : Seen). length (s.done x.input)) L.looks)
      refl refl

-- ---- other links

module _ (number : ℕ) (key : PortKey) (n : ℕ) (load : Load) (hs : List HeaderRecord) (o : Once hs) (A : IsOutAt number n hs) where
  put_todo : (s : Spot) (k : PortKey) → same_key k key ≡ false → (pushed key s n load (stock_of hs)).headers.todo k ≡ (seen hs).todo k
  put_todo spots.TodoBack k f = rw f refl
  put_todo spots.TodoFront k f = rw f refl
  put_todo spots.DoneBack k f = refl

  put_done : (s : Spot) (k : PortKey) → same_key k key ≡ false → (pushed key s n load (stock_of hs)).headers.done k ≡ (seen hs).done k
  put_done spots.TodoBack k f = refl
  put_done spots.TodoFront k f = refl
  put_done spots.DoneBack k f = rw f refl

  pub land_beside : (spot : Spot) (y : LinkEnds) → same_key y.output key ≡ false → same_key y.input key ≡ false → is_in n y.draining ≡ false → link_view y (put key spot n (loaded load) hs) ≡ link_view y hs
  land_beside spot y p q d =
      let ks : List HeaderRecord = put key spot n (loaded load) hs in
      let L : IsLanded key spot n load hs ks = is_landed number key spot n load hs o A in
      let M : IsMoved key key n hs ks = record {
        once = L.once;
        todo = λ k f g. ap (λ (s : Seen). s.todo k) L.looks ∙ put_todo spot k f;
        done = λ k f g. ap (λ (s : Seen). s.done k) L.looks ∙ put_done spot k f;
        loads = L.off;
        no_todo = λ k f. L.no_todo k;
        no_done = λ k f. L.no_done k;
      } in
      beside_same key key n hs ks y M (record { output_one = p; output_other = p; input_one = q; input_other = q }) d
