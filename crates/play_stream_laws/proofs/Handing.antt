-- A header that is handed on keeps the bytes on their way in every link, and so does one that comes back; one that is made carries nothing,
-- and one that is unmade or comes back unused while a link is being changed was on no way.
use Rattle.std.proofs.Common.{◌≡◌, ◌≢◌, inl, inr, ℕ, ◌<◌, Bool, true, false, not, if◌then◌else◌, List, [], ◌∷◌, ◌++◌, Some, option_map, refl, sym, ◌∙◌, ap, subst, append_assoc, append-nil}
use Rattle.std.proofs.lemmas.Bool.{cases_eq}
use Rattle.il_machine.specs.declared.port.PortKey.{PortKey}
use Rattle.il_machine.specs.declared.header.Spot.{Spot}
use Rattle.il_machine.specs.declared.header.Spot.TheVariants.{TodoBack}
use Rattle.il_machine.specs.World.{HeaderRecord, World}
use Rattle.il_machine.specs.Headers.{cleared, find_header, has_number, in_done, in_todo, is_done, is_owned_by, is_state, is_todo, load_at, load_of, numbers, put, same_key, seen, unchanged, without, Once}
use Rattle.il_machine.specs.Stock.{number_where}
use Rattle.machine_laws.proofs.Finding.{either, push_else, without_else}
use Rattle.machine_laws.proofs.Listed.{IsIn, first_in, todo_in}
use Rattle.stock_laws.proofs.Flat.{numbers-append}
use Rattle.stock_laws.proofs.Leaving.{and_false_right}
use Rattle.play_model.specs.Play.{Play}
use Rattle.play_world_laws.proofs.Hands.{IsHanded, handed}
use Rattle.play_world_laws.proofs.Same.{IsMoved}
use Rattle.play_world_laws.proofs.Unused.{unused_moved}
use Rattle.play_world_laws.specs.Cast.{links_of, output_at, input_at}
use Rattle.play_world_laws.specs.Wiring.{work_in}
use Rattle.play_world_laws.proofs.Counting.{next_unmade}
use Rattle.play_world_laws.proofs.Flowing.{key_not}
use Rattle.play_stream_laws.specs.Flowing.{contents_of, flowing_in, numbers_on}
use Rattle.play_stream_laws.proofs.Keeping.{KeepsFlow}
use Rattle.play_stream_laws.proofs.Listing.{contents_off, contents_same}
use Rattle.play_world_laws.specs.PlayWorlds.{IsPlayWorld, PlayCast, end_of_link}
use Rattle.play_world_laws.proofs.Around.{ends_differ}
use Rattle.play_stream_laws.proofs.PlayLinks.{all_of, not_among, not_there, of_owner}

-- a header that fails the test of a list isn't missed there
numbers_without : (q : HeaderRecord → Bool) (n : ℕ) (hs : List HeaderRecord) (r : HeaderRecord) → find_header n hs ≡ Some r → q r ≡ false → numbers q (without n hs) ≡ numbers q hs
numbers_without q n [] r f e = refl
numbers_without q n (z ∷ hs) r f e = either (has_number n z)
    (λ t.
    let s : Some z ≡ Some r = rw t at f in
    let is : z ≡ r = cc in
    let fails : q z ≡ false = ap q is ∙ e in
    rw (t, fails) refl)
    (λ t.
    let i = numbers_without q n hs r (rw t at f) e in
    rw t (ap (λ (ns : List ℕ). if q z then z.state.number ∷ ns else ns) i))

passed_on : (ds ts ns : List ℕ) (n : ℕ) → (ds ++ (ts ++ n ∷ [])) ++ ns ≡ (ds ++ ts) ++ (n ∷ ns)
passed_on ds ts ns n = ap (λ (l : List ℕ). l ++ ns) (sym (append_assoc ds ts (n ∷ []))) ∙ append_assoc (ds ++ ts) (n ∷ []) ns

module _ (x : PlayCast) (recent : ℕ) (p : Play) (w : World) (W : IsPlayWorld x recent p w) where
  abbrev hs : List HeaderRecord
  hs = w.headers

  once : Once hs
  once = (W.sound).once

  abbrev works : ℕ → List ℕ
  works k = work_in w.components (input_at x.cast k)

  abbrev numbers_with : List HeaderRecord → ℕ → List ℕ
  numbers_with ks k = numbers_on (output_at x.cast k) (input_at x.cast k) (works k) ks

  abbrev with_headers : List HeaderRecord → World
  with_headers ks = record w { headers = ks }

  -- ---- the front of a list done goes to the other end

  module _ (l : ℕ) (b : l < links_of x.cast) (n : ℕ) (ns : List ℕ) where
    -- the same headers, which carry the same
    same_bytes : (ks : List HeaderRecord) (key peer : PortKey) → IsHanded key peer n ns hs ks → (k : ℕ) → numbers_with ks k ≡ numbers_with hs k → flowing_in x.cast (with_headers ks) k ≡ flowing_in x.cast w k
    same_bytes ks key peer H k e = ap (contents_of ks) e ∙ contents_same hs ks (numbers_with hs k) H.loads

    same_numbers : (ks : List HeaderRecord) (key peer : PortKey) → IsHanded key peer n ns hs ks → (k : ℕ) → output_at x.cast k ≢ key → input_at x.cast k ≢ peer → numbers_with ks k ≡ numbers_with hs k
    same_numbers ks key peer H k d e =
        let t = H.todo (input_at x.cast k) (key_not (input_at x.cast k) peer e) in
        let s = H.done (output_at x.cast k) (key_not (output_at x.cast k) key d) in
        λ i. (works k ++ t i) ++ s i

    pub on_flow : (seen hs).done (output_at x.cast l) ≡ n ∷ ns → KeepsFlow x.cast w (with_headers (put (input_at x.cast l) TodoBack n unchanged hs))
    on_flow e =
        let ks : List HeaderRecord = put (input_at x.cast l) TodoBack n unchanged hs in
        let H : IsHanded (output_at x.cast l) (input_at x.cast l) n ns hs ks = handed (output_at x.cast l) (input_at x.cast l) n ns hs once e in
        record {
          bytes = λ k d. same_bytes ks (output_at x.cast l) (input_at x.cast l) H k (elim (cases_eq k l) [
            | inl s ↦
                let ds : List ℕ = works l in
                let here : numbers_with ks l ≡ numbers_with hs l =
                (λ i. (ds ++ H.come i) ++ H.gone i) ∙ (passed_on ds ((seen hs).todo (input_at x.cast l)) ns n ∙ ap (λ (q : List ℕ). (ds ++ (seen hs).todo (input_at x.cast l)) ++ q) (sym e)) in
                subst (λ (j : ℕ). numbers_with ks j ≡ numbers_with hs j) (sym s) here
            | inr o ↦ same_numbers ks (output_at x.cast l) (input_at x.cast l) H k (λ q. o ((W.cast_is).outputs k l d b q)) (λ q. o ((W.cast_is).inputs k l d b q))
          ]);
          parts = λ i. refl;
        }

    pub back_flow : (seen hs).done (input_at x.cast l) ≡ n ∷ ns → KeepsFlow x.cast w (with_headers (put (output_at x.cast l) TodoBack n unchanged hs))
    back_flow e =
        let ks : List HeaderRecord = put (output_at x.cast l) TodoBack n unchanged hs in
        let H : IsHanded (input_at x.cast l) (output_at x.cast l) n ns hs ks = handed (input_at x.cast l) (output_at x.cast l) n ns hs once e in
        record {
          bytes = λ k d. same_bytes ks (input_at x.cast l) (output_at x.cast l) H k (same_numbers ks (input_at x.cast l) (output_at x.cast l) H k ((W.cast_is).beside k l d b) (λ q. (W.cast_is).beside l k b d (sym q)));
          parts = λ i. refl;
        }

    -- at either end
    pub handed_flow : (o : Bool) → (seen hs).done (end_of_link x.cast o l) ≡ n ∷ ns → KeepsFlow x.cast w (with_headers (put (end_of_link x.cast (not o) l) TodoBack n unchanged hs))
    handed_flow true e = on_flow e
    handed_flow false e = back_flow e

  -- ---- a header is made

  unlisted : (q : HeaderRecord → Bool) (r : HeaderRecord) → q r ≡ false → numbers q (hs ++ r ∷ []) ≡ numbers q hs
  unlisted q r e = numbers-append q hs r ∙ (ap (λ (t : Bool). numbers q hs ++ number_where t r.state.number) e ∙ append-nil (numbers q hs))

  pub made_flow : (r : HeaderRecord) (m : ℕ) → r.state.number ≡ w.made → ((k : ℕ) → k < links_of x.cast → (in_todo (input_at x.cast k) r.state ≡ false) × (in_done (output_at x.cast k) r.state ≡ false))
      → KeepsFlow x.cast w (record w { headers = hs ++ r ∷ []; made = m })
  made_flow r m number none = record {
    bytes = λ k d.
        let ks : List HeaderRecord = hs ++ r ∷ [] in
        let f = none k d in
        let t = unlisted (is_state (in_todo (input_at x.cast k))) r f.0 in
        let s = unlisted (is_state (in_done (output_at x.cast k))) r f.1 in
        ap (contents_of ks) (λ i. (works k ++ t i) ++ s i)
        ∙ contents_off hs ks w.made (numbers_with hs k) (not_there x.cast k w.made hs (next_unmade w W.sound) (numbers_with hs k) (all_of x recent p w W k d)) (λ j n. ap (option_map load_of) (push_else j hs r (λ e. n (sym e ∙ number))));
    parts = λ i. refl;
  }

  -- ---- a header of a link on which nothing is on its way

  module _ (l : ℕ) (b : l < links_of x.cast) (o : Bool) (n : ℕ) where
    -- all else stays but the lists of its ends
    elsewhere : (ks : List HeaderRecord) → IsIn (end_of_link x.cast o l) hs n → numbers_with hs l ≡ [] → numbers_with ks l ≡ []
        → ((k : ℕ) → k < links_of x.cast → k ≢ l → numbers_with ks k ≡ numbers_with hs k) → ((j : ℕ) → j ≢ n → load_at j ks ≡ load_at j hs) → KeepsFlow x.cast w (with_headers ks)
    elsewhere ks I none after same loads = record {
      bytes = λ k d. elim (cases_eq k l) [
        | inl s ↦ subst (λ (j : ℕ). flowing_in x.cast (with_headers ks) j ≡ flowing_in x.cast w j) (sym s) (ap (contents_of ks) after ∙ sym (ap (contents_of hs) none))
        | inr e ↦
            let apart = not_among x recent p w W l k n b d e (of_owner x recent p w W o l n b I) (numbers_with hs k) (all_of x recent p w W k d) in
            ap (contents_of ks) (same k d e) ∙ contents_off hs ks n (numbers_with hs k) apart loads
      ];
      parts = λ i. refl;
    }

    pub unmade_flow : IsIn (end_of_link x.cast o l) hs n → numbers_with hs l ≡ [] → numbers_with (without n hs) l ≡ [] → KeepsFlow x.cast w (with_headers (without n hs))
    unmade_flow I none after = elsewhere (without n hs) I none after
        (λ k d e.
        let todo : (seen (without n hs)).todo (input_at x.cast k) ≡ (seen hs).todo (input_at x.cast k) = numbers_without (is_state (in_todo (input_at x.cast k))) n hs I.header I.found (unowned_todo (input_at x.cast k) (λ z. ends_differ x.cast W.cast_is o false l k b d (λ s. e (sym s)) z)) in
        let done : (seen (without n hs)).done (output_at x.cast k) ≡ (seen hs).done (output_at x.cast k) = numbers_without (is_state (in_done (output_at x.cast k))) n hs I.header I.found (unowned_done (output_at x.cast k) (λ z. ends_differ x.cast W.cast_is o true l k b d (λ s. e (sym s)) z)) in
        λ i. (works k ++ todo i) ++ done i)
        (λ j e. ap (option_map load_of) (without_else n j hs e))
      where
        owned : (key : PortKey) → end_of_link x.cast o l ≢ key → is_owned_by key I.header.state.owner ≡ false
        owned key d = ap (is_owned_by key) I.owner ∙ key_not (end_of_link x.cast o l) key d

        unowned_todo : (key : PortKey) → end_of_link x.cast o l ≢ key → is_state (in_todo key) I.header ≡ false
        unowned_todo key d = rw (owned key d) (and_false_right (is_todo I.header.state.queue))

        unowned_done : (key : PortKey) → end_of_link x.cast o l ≢ key → is_state (in_done key) I.header ≡ false
        unowned_done key d = rw (owned key d) (and_false_right (is_done I.header.state.queue))

    pub unused_flow : (spot : Spot) (ns : List ℕ) → (seen hs).todo (end_of_link x.cast o l) ≡ n ∷ ns → numbers_with hs l ≡ [] → numbers_with (put (end_of_link x.cast (not o) l) spot n cleared hs) l ≡ []
        → KeepsFlow x.cast w (with_headers (put (end_of_link x.cast (not o) l) spot n cleared hs))
    unused_flow spot ns e none after =
        let ks : List HeaderRecord = put (end_of_link x.cast (not o) l) spot n cleared hs in
        let M : IsMoved (end_of_link x.cast o l) (end_of_link x.cast (not o) l) n hs ks = unused_moved (end_of_link x.cast o l) (end_of_link x.cast (not o) l) spot n ns hs once e in
        let apart : (s t : Bool) (k : ℕ) → k < links_of x.cast → k ≢ l → same_key (end_of_link x.cast s k) (end_of_link x.cast t l) ≡ false = λ s t k d f. key_not (end_of_link x.cast s k) (end_of_link x.cast t l) (ends_differ x.cast W.cast_is s t k l d b f) in
        elsewhere ks (first_in (end_of_link x.cast o l) hs ((seen hs).todo (end_of_link x.cast o l)) ns n (todo_in (end_of_link x.cast o l) hs once) e) none after
        (λ k d f.
        let todo = M.todo (input_at x.cast k) (apart false o k d f) (apart false (not o) k d f) in
        let done = M.done (output_at x.cast k) (apart true o k d f) (apart true (not o) k d f) in
        λ i. (works k ++ todo i) ++ done i)
        M.loads
