-- An unused header that comes back, cleared, is a change of the link.
use Rattle.std.proofs.Common.{◌≡◌, ◌≢◌, ℕ, ◌+◌, Bool, false, List, [], ◌∷◌, ◌++◌, length, map, Some, option_map, refl, ◌∙◌, ap, subst, length-append, arith}
use Rattle.il_machine.specs.declared.port.PortKey.{PortKey}
use Rattle.il_machine.specs.declared.header.Spot.{Spot}
use Rattle.il_machine.specs.declared.header.Spot.TheVariants.{TodoBack, DoneBack}
use Rattle.il_machine.specs.World.{HeaderRecord, Load}
use Rattle.il_machine.specs.Headers.{Seen, seen, load_at, load_of, find_header, numbers, put, put_at, cleared, unloaded, is_state, is_owned_by, in_todo, in_done, same_key, Once}
use Rattle.il_machine.specs.Stock.{StandsFor, pushed, todo_pulled}
use Rattle.machine_laws.proofs.Finding.{found_number}
use Rattle.machine_laws.proofs.Replacing.{IsReplaced, replaced_put}
use Rattle.machine_laws.proofs.Listed.{todo_owner}
use Rattle.stock_laws.proofs.Keys.{same_key-sym, same_key-refl}
use Rattle.stock_laws.proofs.Leaving.{Fronts, fronts}
use Rattle.stock_laws.proofs.Composed.{pull_put_cleared}
use Rattle.play_world_laws.specs.View.{LinkEnds, filled, link_view, AreApart, is_in}
use Rattle.play_world_laws.proofs.Same.{in_passes, stock_of, stands_of, in_append, filled_off, link_same, elsewhere_todo, elsewhere_done, IsMoved, beside_same}

-- what a put of the cleared front of todo leaves
record IsPut (key peer : PortKey) (spot : Spot) (n : ℕ) (hs ks : List HeaderRecord) : Type 0 where
  load : Load
  looks : seen ks ≡ (pushed peer spot n (unloaded load) (todo_pulled key (stock_of hs))).headers
  off : (m : ℕ) → m ≢ n → load_at m ks ≡ load_at m hs
  -- the header is in no list whose test its new place fails
  gone : (q : HeaderRecord → Bool) → ((r : HeaderRecord) → q (put_at peer spot (cleared r)) ≡ false) → is_in n (numbers q ks) ≡ false
  once : Once ks
  -- nor was it in a list of another port
  no_todo : (k : PortKey) → same_key k key ≡ false → is_in n ((seen hs).todo k) ≡ false
  no_done : (k : PortKey) → same_key k key ≡ false → is_in n ((seen hs).done k) ≡ false

is_put : (key peer : PortKey) (spot : Spot) (n : ℕ) (ns : List ℕ) (hs : List HeaderRecord) → Once hs → (seen hs).todo key ≡ n ∷ ns → IsPut key peer spot n hs (put peer spot n cleared hs)
is_put key peer spot n ns hs o e =
    let F : Fronts (is_state (in_todo key)) n hs = fronts (is_state (in_todo key)) n ns hs o e in
    let r : HeaderRecord = F.it in
    let found : find_header n hs ≡ Some r = F.is in
    let load : load_at n hs ≡ Some r.load = rw found refl in
    let ks : List HeaderRecord = put peer spot n cleared hs in
    let S : StandsFor (pushed peer spot n (unloaded r.load) (todo_pulled key (stock_of hs))) ks = pull_put_cleared (stock_of hs) hs key peer spot n ns r.load (stands_of hs o) e load in
    let R : IsReplaced n r (put_at peer spot (cleared r)) hs ks = replaced_put peer spot cleared (λ _. refl) n hs r o found in
    let owner = todo_owner key r.state F.passes in
    let apart : (k : PortKey) → same_key k key ≡ false → is_owned_by k r.state.owner ≡ false = λ k f. rw owner (same_key-sym key k ∙ f) in
    record {
      load = r.load;
      looks = S.looks;
      off = λ m a. ap (option_map load_of) (R.others m a);
      gone = λ q fails.
          let number : (put_at peer spot (cleared r)).state.number ≡ n = found_number n ks (put_at peer spot (cleared r)) R.here in
          subst (λ (k : ℕ). is_in k (numbers q ks) ≡ false) number (in_passes q n ks (put_at peer spot (cleared r)) R.once R.here ∙ fails r);
      once = S.once;
      no_todo = λ k f. elsewhere_todo n hs r k o found (apart k f);
      no_done = λ k f. elsewhere_done n hs r k o found (apart k f);
    }

module _ (x : LinkEnds) (hs : List HeaderRecord) (n : ℕ) (ns : List ℕ) (o : Once hs) (a : same_key x.input x.output ≡ false) (d : is_in n x.draining ≡ false) where
  back_a : same_key x.output x.input ≡ false
  back_a = same_key-sym x.output x.input ∙ a

  -- the output supplies: the front of todo of the input comes back to todo of the output
  pub from_input : (seen hs).todo x.input ≡ n ∷ ns → link_view x (put x.output TodoBack n cleared hs)
      ≡ record (link_view x hs) { held = map (filled x.unit hs) (x.draining ++ ns); ready = (link_view x hs).ready + 1 }
  from_input e =
      let ks : List HeaderRecord = put x.output TodoBack n cleared hs in
      let P : IsPut x.input x.output TodoBack n hs ks = is_put x.input x.output TodoBack n ns hs o e in
      let ready : length ((seen ks).todo x.output) ≡ length ((seen hs).todo x.output) + 1 =
      ap length (ap (λ (s : Seen). s.todo x.output) P.looks ∙ rw (e, same_key-refl x.output, back_a) refl) ∙ length-append ((seen hs).todo x.output) (n ∷ []) in
      let held : (seen ks).todo x.input ≡ ns = ap (λ (s : Seen). s.todo x.input) P.looks ∙ rw (e, same_key-refl x.input, a) refl in
      let sent : (seen ks).done x.output ≡ (seen hs).done x.output = ap (λ (s : Seen). s.done x.output) P.looks ∙ rw e refl in
      let spent : (seen ks).done x.input ≡ (seen hs).done x.input = ap (λ (s : Seen). s.done x.input) P.looks ∙ rw e refl in
      link_same (link_view x ks) (record (link_view x hs) { held = map (filled x.unit hs) (x.draining ++ ns); ready = (link_view x hs).ready + 1 })
      (omega arith)
      (filled_off x.unit hs ks n ((seen ks).done x.output) (P.gone (is_state (in_done x.output)) (λ r. refl)) P.off ∙ ap (map (filled x.unit hs)) sent)
      (filled_off x.unit hs ks n (x.draining ++ (seen ks).todo x.input) (in_append n x.draining ((seen ks).todo x.input) d (P.gone (is_state (in_todo x.input)) (λ r. back_a))) P.off
      ∙ ap (λ (l : List ℕ). map (filled x.unit hs) (x.draining ++ l)) held)
      (ap length spent)
      refl refl

  -- the input supplies: the front of todo of the output comes back to done of the input
  pub from_output : (seen hs).todo x.output ≡ n ∷ ns → link_view x (put x.input DoneBack n cleared hs)
      ≡ record (link_view x hs) { ready = length x.filling + length ns; spent = (link_view x hs).spent + 1 }
  from_output e =
      let ks : List HeaderRecord = put x.input DoneBack n cleared hs in
      let P : IsPut x.output x.input DoneBack n hs ks = is_put x.output x.input DoneBack n ns hs o e in
      let ready : (seen ks).todo x.output ≡ ns = ap (λ (s : Seen). s.todo x.output) P.looks ∙ rw (e, same_key-refl x.output) refl in
      let held : (seen ks).todo x.input ≡ (seen hs).todo x.input = ap (λ (s : Seen). s.todo x.input) P.looks ∙ rw (e, a) refl in
      let sent : (seen ks).done x.output ≡ (seen hs).done x.output = ap (λ (s : Seen). s.done x.output) P.looks ∙ rw (e, back_a) refl in
      let spent : (seen ks).done x.input ≡ (seen hs).done x.input ++ n ∷ [] = ap (λ (s : Seen). s.done x.input) P.looks ∙ rw (e, same_key-refl x.input) refl in
      link_same (link_view x ks) (record (link_view x hs) { ready = length x.filling + length ns; spent = (link_view x hs).spent + 1 })
      (ap (λ (l : List ℕ). length x.filling + length l) ready)
      (filled_off x.unit hs ks n ((seen ks).done x.output) (P.gone (is_state (in_done x.output)) (λ r. a)) P.off ∙ ap (map (filled x.unit hs)) sent)
      (filled_off x.unit hs ks n (x.draining ++ (seen ks).todo x.input) (in_append n x.draining ((seen ks).todo x.input) d (P.gone (is_state (in_todo x.input)) (λ r. refl))) P.off
      ∙ ap (λ (l : List ℕ). map (filled x.unit hs) (x.draining ++ l)) held)
      (ap length spent ∙ length-append ((seen hs).done x.input) (n ∷ []))
      refl refl

-- the lists of ports beside
module _ (key peer : PortKey) (spot : Spot) (n : ℕ) (ns : List ℕ) (hs : List HeaderRecord) (o : Once hs) (e : (seen hs).todo key ≡ n ∷ ns) where
  todo_kept : (s : Spot) (k : PortKey) (load : Load) → same_key k key ≡ false → same_key k peer ≡ false → (pushed peer s n (unloaded load) (todo_pulled key (stock_of hs))).headers.todo k ≡ (seen hs).todo k
  todo_kept Spot.TodoBack k load f g = rw (e, f, g) refl
  todo_kept Spot.TodoFront k load f g = rw (e, f, g) refl
  todo_kept Spot.DoneBack k load f g = rw (e, f) refl

  done_kept : (s : Spot) (k : PortKey) (load : Load) → same_key k peer ≡ false → (pushed peer s n (unloaded load) (todo_pulled key (stock_of hs))).headers.done k ≡ (seen hs).done k
  done_kept Spot.TodoBack k load g = rw e refl
  done_kept Spot.TodoFront k load g = rw e refl
  done_kept Spot.DoneBack k load g = rw (e, g) refl

  pub unused_moved : IsMoved key peer n hs (put peer spot n cleared hs)
  unused_moved =
      let ks : List HeaderRecord = put peer spot n cleared hs in
      let P : IsPut key peer spot n hs ks = is_put key peer spot n ns hs o e in
      record {
        once = P.once;
        todo = λ k f g. ap (λ (s : Seen). s.todo k) P.looks ∙ todo_kept spot k P.load f g;
        done = λ k f g. ap (λ (s : Seen). s.done k) P.looks ∙ done_kept spot k P.load g;
        loads = P.off;
        no_todo = P.no_todo;
        no_done = P.no_done;
      }

module _ (x y : LinkEnds) (hs : List HeaderRecord) (n : ℕ) (ns : List ℕ) (o : Once hs) (A : AreApart x y) (d : is_in n y.draining ≡ false) where
  pub input_beside : (seen hs).todo x.input ≡ n ∷ ns → link_view y (put x.output TodoBack n cleared hs) ≡ link_view y hs
  input_beside e = beside_same x.input x.output n hs (put x.output TodoBack n cleared hs) y (unused_moved x.input x.output TodoBack n ns hs o e)
      (record { output_one = A.output_input; output_other = A.outputs; input_one = A.inputs; input_other = A.input_output }) d

  pub output_beside : (seen hs).todo x.output ≡ n ∷ ns → link_view y (put x.input DoneBack n cleared hs) ≡ link_view y hs
  output_beside e = beside_same x.output x.input n hs (put x.input DoneBack n cleared hs) y (unused_moved x.output x.input DoneBack n ns hs o e)
      (record { output_one = A.outputs; output_other = A.output_input; input_one = A.input_output; input_other = A.inputs }) d
