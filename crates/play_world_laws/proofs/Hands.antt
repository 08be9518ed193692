-- The machine's hand-overs and hand-backs are moves of a flow.
use Rattle.std.proofs.Common.{◌≡◌, ℕ, suc, ◌+◌, false, nat_eq, List, [], ◌∷◌, ◌++◌, length, map, Some, option_map, refl, sym, ◌∙◌, ap, subst, append_assoc, length-append, eqb-true, arith}
use Rattle.std.proofs.lemmas.Bool.{eqb-false}
use Rattle.il_machine.specs.declared.port.PortKey.{PortKey}
use Rattle.il_machine.specs.declared.header.Spot.TheVariants.{TodoBack}
use Rattle.il_machine.specs.World.{HeaderRecord}
use Rattle.il_machine.specs.Headers.{Seen, seen, load_at, load_of, find_header, put, put_at, unchanged, is_state, is_owned_by, in_done, same_key, Once}
use Rattle.il_machine.specs.Stock.{StandsFor, pushed, done_pulled}
use Rattle.machine_laws.proofs.Finding.{either}
use Rattle.machine_laws.proofs.Replacing.{IsReplaced, replaced_put}
use Rattle.machine_laws.proofs.Listed.{done_owner}
use Rattle.stock_laws.proofs.Keys.{same_key-sym, same_key-refl}
use Rattle.stock_laws.proofs.Leaving.{Fronts, fronts}
use Rattle.stock_laws.proofs.Composed.{send_put_back}
use Rattle.play_model.specs.Moves.{sent_on, sent_back}
use Rattle.play_world_laws.specs.View.{LinkEnds, filled, link_view, AreApart, is_in}
use Rattle.play_world_laws.proofs.Same.{stock_of, stands_of, map_push, filled_all, link_same, elsewhere_todo, elsewhere_done, IsMoved, beside_same}

-- the two lists of each port, and the loads, after the front of done of a port went to the back of todo of another
pub record IsHanded (key peer : PortKey) (n : ℕ) (ns : List ℕ) (hs ks : List HeaderRecord) : Type 0 where
  pub gone : (seen ks).done key ≡ ns
  pub come : (seen ks).todo peer ≡ (seen hs).todo peer ++ n ∷ []
  pub done : (k : PortKey) → same_key k key ≡ false → (seen ks).done k ≡ (seen hs).done k
  pub todo : (k : PortKey) → same_key k peer ≡ false → (seen ks).todo k ≡ (seen hs).todo k
  pub loads : (m : ℕ) → load_at m ks ≡ load_at m hs
  pub moved : IsMoved key peer n hs ks

pub handed : (key peer : PortKey) (n : ℕ) (ns : List ℕ) (hs : List HeaderRecord) → Once hs → (seen hs).done key ≡ n ∷ ns → IsHanded key peer n ns hs (put peer TodoBack n unchanged hs)
handed key peer n ns hs o e =
    let ks : List HeaderRecord = put peer TodoBack n unchanged hs in
    let F : Fronts (is_state (in_done key)) n hs = fronts (is_state (in_done key)) n ns hs o e in
    let r : HeaderRecord = F.it in
    let found : find_header n hs ≡ Some r = F.is in
    let load : load_at n hs ≡ Some r.load = rw found refl in
    let S : StandsFor (pushed peer TodoBack n r.load (done_pulled key (stock_of hs))) ks = send_put_back (stock_of hs) hs key peer TodoBack n ns r.load (stands_of hs o) e load in
    let L : seen ks ≡ (pushed peer TodoBack n r.load (done_pulled key (stock_of hs))).headers = S.looks in
    let R : IsReplaced n r (put_at peer TodoBack r) hs ks = replaced_put peer TodoBack unchanged (λ _. refl) n hs r o found in
    let owner = done_owner key r.state F.passes in
    let apart : (k : PortKey) → same_key k key ≡ false → is_owned_by k r.state.owner ≡ false = λ k f. rw owner (same_key-sym key k ∙ f) in
    let todo : (k : PortKey) → same_key k peer ≡ false → (seen ks).todo k ≡ (seen hs).todo k = λ k f. ap (λ (s : Seen). s.todo k) L ∙ rw (e, f) refl in
    let done : (k : PortKey) → same_key k key ≡ false → (seen ks).done k ≡ (seen hs).done k = λ k f. ap (λ (s : Seen). s.done k) L ∙ rw (e, f) refl in
    let loads : (m : ℕ) → load_at m ks ≡ load_at m hs = λ m. either (nat_eq m n)
    (λ t. let q : m ≡ n = eqb-true _ _ t in subst (λ (k : ℕ). option_map load_of (find_header k ks) ≡ option_map load_of (find_header k hs)) (sym q) (rw (R.here, found) refl))
    (λ f. ap (option_map load_of) (R.others m (eqb-false _ _ f))) in
    record {
      gone = ap (λ (s : Seen). s.done key) L ∙ rw (e, same_key-refl key) refl;
      come = ap (λ (s : Seen). s.todo peer) L ∙ rw (e, same_key-refl peer) refl;
      done = done;
      todo = todo;
      loads = loads;
      moved = record {
        once = S.once;
        todo = λ k f g. todo k g;
        done = λ k f g. done k f;
        loads = λ m d. loads m;
        no_todo = λ k f. elsewhere_todo n hs r k o found (apart k f);
        no_done = λ k f. elsewhere_done n hs r k o found (apart k f);
      };
    }

module _ (x : LinkEnds) (hs : List HeaderRecord) (n : ℕ) (ns : List ℕ) (o : Once hs) (a : same_key x.input x.output ≡ false) where
  a_back : same_key x.output x.input ≡ false
  a_back = same_key-sym x.output x.input ∙ a

  pub hand_on : (seen hs).done x.output ≡ n ∷ ns → link_view x (put x.input TodoBack n unchanged hs) ≡ sent_on (link_view x hs).sent (link_view x hs)
  hand_on e =
      let ks : List HeaderRecord = put x.input TodoBack n unchanged hs in
      let H : IsHanded x.output x.input n ns hs ks = handed x.output x.input n ns hs o e in
      let held : x.draining ++ (seen ks).todo x.input ≡ (x.draining ++ (seen hs).todo x.input) ++ n ∷ [] =
      ap (λ (l : List ℕ). x.draining ++ l) H.come ∙ sym (append_assoc x.draining ((seen hs).todo x.input) (n ∷ [])) in
      let goal : link_view x ks ≡ sent_on (map (filled x.unit hs) (n ∷ ns)) (link_view x hs) =
      link_same (link_view x ks) (sent_on (map (filled x.unit hs) (n ∷ ns)) (link_view x hs))
      (ap (λ (l : List ℕ). length x.filling + length l) (H.todo x.output a_back))
      (filled_all x.unit hs ks ((seen ks).done x.output) H.loads ∙ ap (map (filled x.unit hs)) H.gone)
      (filled_all x.unit hs ks (x.draining ++ (seen ks).todo x.input) H.loads ∙ (ap (map (filled x.unit hs)) held ∙ map_push (filled x.unit hs) (x.draining ++ (seen hs).todo x.input) n))
      (ap length (H.done x.input a))
      refl refl in
      goal ∙ ap (λ (q : List ℕ). sent_on (map (filled x.unit hs) q) (link_view x hs)) (sym e)

  pub hand_back : (seen hs).done x.input ≡ n ∷ ns → link_view x (put x.output TodoBack n unchanged hs) ≡ sent_back (link_view x hs)
  hand_back e =
      let ks : List HeaderRecord = put x.output TodoBack n unchanged hs in
      let H : IsHanded x.input x.output n ns hs ks = handed x.input x.output n ns hs o e in
      let was : length ((seen hs).done x.input) ≡ suc (length ns) = ap length e in
      let is : length ((seen ks).done x.input) ≡ length ns = ap length H.gone in
      let come : length ((seen ks).todo x.output) ≡ length ((seen hs).todo x.output) + 1 = ap length H.come ∙ length-append ((seen hs).todo x.output) (n ∷ []) in
      link_same (link_view x ks) (sent_back (link_view x hs))
      (omega arith)
      (filled_all x.unit hs ks ((seen ks).done x.output) H.loads ∙ ap (map (filled x.unit hs)) (H.done x.output a_back))
      (filled_all x.unit hs ks (x.draining ++ (seen ks).todo x.input) H.loads ∙ ap (λ (l : List ℕ). map (filled x.unit hs) (x.draining ++ l)) (H.todo x.input a))
      (omega arith)
      refl refl

  pub on_beside : (y : LinkEnds) → (seen hs).done x.output ≡ n ∷ ns → AreApart x y → is_in n y.draining ≡ false → link_view y (put x.input TodoBack n unchanged hs) ≡ link_view y hs
  on_beside y e A d = beside_same x.output x.input n hs (put x.input TodoBack n unchanged hs) y (handed x.output x.input n ns hs o e).moved
      (record { output_one = A.outputs; output_other = A.output_input; input_one = A.input_output; input_other = A.inputs }) d

  pub back_beside : (y : LinkEnds) → (seen hs).done x.input ≡ n ∷ ns → AreApart x y → is_in n y.draining ≡ false → link_view y (put x.output TodoBack n unchanged hs) ≡ link_view y hs
  back_beside y e A d = beside_same x.input x.output n hs (put x.output TodoBack n unchanged hs) y (handed x.input x.output n ns hs o e).moved
      (record { output_one = A.output_input; output_other = A.outputs; input_one = A.inputs; input_other = A.input_output }) d
