-- The headers of a work that comes back, by what each lands as: the links that no header of it is of stay as they are.
use Rattle.std.proofs.Common.{◌≡◌, ◌≢◌, ◌⊎◌, inl, inr, ℕ, zero, suc, ◌*◌, ◌/◌, ◌<◌, Bool, true, false, ◌||◌, nat_eq, List, [], ◌∷◌, length, set, slice_get, Option, Some, None, option_map, option_and_then, refl, sym, ◌∙◌, ap, subst, eqb-true, ne_eqb, arith}
use Rattle.std.proofs.lemmas.Bool.{cases_eq}
use Rattle.il_machine.specs.declared.header.HeaderState.{HeaderState}
use Rattle.il_machine.specs.declared.port.PortKey.{PortKey}
use Rattle.il_machine.specs.Lists.{holds_at}
use Rattle.il_machine.specs.World.{Component, HeaderRecord, Load, Picked, Work, World, number_of}
use Rattle.il_machine.specs.Headers.{same_key, find_header, is_for, is_work_of, put, put_at, loaded, state_of, weight, Once}
use Rattle.il_machine.specs.Sound.{ArePicked, is_in_work_of}
use Rattle.machine_laws.proofs.Finding.{either}
use Rattle.machine_laws.proofs.Parts.{parts_of}
use Rattle.machine_laws.proofs.Replacing.{replaced_put}
use Rattle.play_model.specs.Network.{LinkState}
use Rattle.play_model.specs.Play.{Play}
use Rattle.play_world_laws.specs.View.{link_view, picked_at, worked_at, is_in as is_among}
use Rattle.play_world_laws.specs.Tunnel.{IsOutAt}
use Rattle.play_world_laws.proofs.Counts.{keys_apart}
use Rattle.play_world_laws.proofs.Works.{land_beside}
use Rattle.play_world_laws.specs.Cast.{Cast, links_of, script_place, taker_of, output_at, input_at}
use Rattle.play_world_laws.specs.Wiring.{work_in}
use Rattle.play_world_laws.specs.Worlds.{HasLink, IsWholeHeader, IsWork}
use Rattle.play_world_laws.proofs.Flowing.{not_worked_by, put_links}
use Rattle.play_world_laws.proofs.Folds.{all_made, AreReady, ready_from, fold_beside, fold_here, fold_stays}
use Rattle.play_world_laws.proofs.Wanted.{end_at, IsLinkAt, link_below, end_place}
use Rattle.play_world_laws.proofs.Picks.{picks_differ, picked_none, works_here, works_else, ends_with, IsPick, pick_key, ends_differ, key_is_end, beside_ends, links_differ}
use Rattle.play_world_laws.proofs.Worked.{IsHeaderOf}
use Rattle.play_world_laws.proofs.Landings.{Landed, put_one}
use Rattle.play_step_laws.proofs.Claimable.{own_works}
use Rattle.play_step_laws.proofs.Picks.{pick_link}
use Rattle.play_step_laws.proofs.Poised.{IsPoised}
use Rattle.play_step_laws.proofs.Worked.{before_end, work_rises, numbers_differ}

picked_in : (port : ℕ) (xs : List Picked) (m : ℕ) → is_among m (picked_at port xs) ≡ true → (j : ℕ) × (y : Picked) × (slice_get xs j ≡ Some y) × (y.port ≡ port) × (m ≡ y.number)
picked_in port [] m e = absurd cc
picked_in port (z ∷ xs) m e = either (nat_eq z.port port)
    (λ t.
    let f : (nat_eq m z.number || is_among m (picked_at port xs)) ≡ true = rw t at e in
    either (nat_eq m z.number)
    (λ u. (0, z, refl, eqb-true _ _ t, eqb-true _ _ u))
    (λ u. let r = picked_in port xs m (rw u at f) in (suc r.0, r.1, r.2, r.3, r.4)))
    (λ t. let r = picked_in port xs m (rw t at e) in (suc r.0, r.1, r.2, r.3, r.4))

-- ---- each header is as it was until it lands

abbrev pub IsStill : World → Landed → List HeaderRecord → Type 0
IsStill w u ks = (r : HeaderRecord) × (find_header u.number w.headers ≡ Some r) × Once ks × (find_header u.number ks ≡ Some r)

abbrev pub AreTwo : Landed → Landed → Type 0
AreTwo u z = u.number ≢ z.number

pub still_stays : (w : World) (i : ℕ) (z u : Landed) (ks : List HeaderRecord) → AreTwo z u → IsStill w z ks → IsStill w u ks → IsStill w u (put_one i z ks)
still_stays w i z u ks d r q =
    let R = replaced_put (record { component = i; port = z.port }) z.spot (loaded z.load) (λ _. refl) z.number ks r.0 r.2 r.3 in
    (q.0, q.1, R.once, R.others u.number (λ h. d (sym h)) ∙ q.3)

-- ---- what lands

module _ (x : Cast) (p : Play) (w : World) (c : ℕ) (a : Component) (work : Work) (land : Picked → HeaderRecord → Landed) where
  pub record Lands (j : ℕ) (u : Landed) : Type 0 where
    pub link : ℕ
    pub input : Bool
    pub pick : Picked
    pub header : HeaderRecord
    pub picked : IsPick x p c work.headers j pick link input
    pub of_link : IsHeaderOf x w c (number_of a) pick link header
    pub is : u ≡ land pick header

  -- each header of the work, in its order, by its port and number
  pub record AllLand (ls : List Landed) : Type 0 where
    pub each : (j : ℕ) (u : Landed) → slice_get ls j ≡ Some u → Lands j u
    pub at : (j l : ℕ) (y : Picked) (input : Bool) (r : HeaderRecord) → IsPick x p c work.headers j y l input → IsHeaderOf x w c (number_of a) y l r → slice_get ls j ≡ Some (land y r)
    pub number : (y : Picked) (r : HeaderRecord) → find_header y.number w.headers ≡ Some r → (land y r).number ≡ y.number
    pub port : (y : Picked) (r : HeaderRecord) → (land y r).port ≡ y.port

module _ (x : Cast) (p : Play) (w : World) (c : ℕ) (a : Component) (U : IsPoised x p w c a) (work : Work) (f : a.work ≡ Some work) (J : IsWork x p c a work)
    (land : Picked → HeaderRecord → Landed) (ls : List Landed) (M : AllLand x p w c a work land ls) where
  abbrev i : ℕ
  i = script_place x c

  abbrev xs : List Picked
  xs = work.headers

  abbrev Lands_ : ℕ → Landed → Type 0
  Lands_ j u = Lands x p w c a work land j u

  pub lands_as : (j : ℕ) (u : Landed) (L : Lands_ j u) → u.number ≡ (L.pick).number
  lands_as j u L = ap (λ (z : Landed). z.number) L.is ∙ M.number L.pick L.header (L.of_link).found

  pub all_still : AreReady (IsStill w) AreTwo ls w.headers
  all_still = ready_from (put_one i) (IsStill w) AreTwo ls w.headers
      (λ j u h.
      let L = M.each j u h in
      let found : find_header u.number w.headers ≡ Some L.header = ap (λ (q : ℕ). find_header q w.headers) (lands_as j u L) ∙ (L.of_link).found in
      (L.header, found, (U.sound).once, found))
      (λ j k u z l h q.
      let L = M.each j u h in
      let K = M.each k z q in
      let d = numbers_differ x p w c a U work f J j k L.pick K.pick l (L.picked).there (K.picked).there in
      λ same. d (sym (lands_as j u L) ∙ (same ∙ lands_as k z K)))

  -- the header is the one of the world
  pub still_is : (l : ℕ) (y : Picked) (r : HeaderRecord) (ks : List HeaderRecord) → IsHeaderOf x w c (number_of a) y l r → IsStill w (land y r) ks → find_header (land y r).number ks ≡ Some r
  still_is l y r ks H R = R.3 ∙ (sym R.1 ∙ (ap (λ (k : ℕ). find_header k w.headers) (M.number y r H.found) ∙ H.found))

  pub out_at : (l : ℕ) (y : Picked) (r : HeaderRecord) (ks : List HeaderRecord) → IsHeaderOf x w c (number_of a) y l r → IsStill w (land y r) ks → IsOutAt (number_of a) (land y r).number ks
  out_at l y r ks H R = record { header = r; found = still_is l y r ks H R; owner = H.owner; out = H.out }

  -- ---- a header of the work is in no other link's part of a work

  same_pick : (j k : ℕ) (y u : Picked) → slice_get xs j ≡ Some y → slice_get xs k ≡ Some u → y.number ≡ u.number → y ≡ u
  same_pick j k y u h q d = elim (cases_eq j k) [
    | inl o ↦ let v : Some y ≡ Some u = sym h ∙ (ap (slice_get xs) o ∙ q) in cc
    | inr o ↦ absurd (elim (ways j k o) [
      | inl l ↦ numbers_differ x p w c a U work f J j k y u l h q d
      | inr l ↦ numbers_differ x p w c a U work f J k j u y l q h (sym d)
    ])
  ]
    where
      ways : (j k : ℕ) → j ≢ k → (j < k) ⊎ (k < j)
      ways zero zero o = absurd (o refl)
      ways zero (suc k) o = inl (omega arith)
      ways (suc j) zero o = inr (omega arith)
      ways (suc j) (suc k) o = elim (ways j k (λ v. o (ap suc v))) [ inl l ↦ inl (omega arith) | inr l ↦ inr (omega arith) ]

  undrained : (j l k : ℕ) (y : Picked) (input : Bool) (r : HeaderRecord) → IsPick x p c xs j y l input → IsHeaderOf x w c (number_of a) y l r → k < links_of x → end_at true x k ≢ end_at input x l → is_among y.number (work_in w.components (input_at x k)) ≡ false
  undrained j l k y input r P H d away =
      let key : PortKey = input_at x k in
      elim (cases_eq key.component i) [
        | inl o ↦
            let own : work_in w.components key ≡ picked_at key.port xs = own_works x p w c a U key o ∙ ap (λ (q : Option Work). worked_at q key.port) f in
            ap (is_among y.number) own ∙ either (is_among y.number (picked_at key.port xs))
            (λ u.
            let v = picked_in key.port xs y.number u in
            let same = same_pick j v.0 y v.1 P.there v.2 v.4 in
            let port : y.port ≡ key.port = ap (λ (q : Picked). q.port) same ∙ v.3 in
            let z : pick_key x c y ≡ key = λ τ. record { component = sym o τ; port = port τ } in
            absurd (away (sym z ∙ key_is_end x p U.cast c xs j l y input P)))
            (λ u. u)
        | inr o ↦
            let E = U.taker k d in
            let N : work_in w.components key ≡ worked_at (E.component).work key.port = ap (λ (q : Option Component). worked_at (option_and_then (λ z. z.work) q) key.port) E.there in
            let S = ((parts_of w U.sound).works).claimed (script_place x (taker_of x k)) E.component E.there y.number in
            let at : option_map state_of (find_header y.number w.headers) ≡ Some r.state = ap (option_map state_of) H.found in
            let apart : nat_eq (number_of a) (number_of E.component) ≡ false = ne_eqb (number_of a) (number_of E.component) (λ q. o (sym (sym U.number ∙ (q ∙ E.number)))) in
            let none : holds_at (option_map state_of (find_header y.number w.headers)) (is_in_work_of (number_of E.component)) ≡ false =
            ap (λ (q : Option HeaderState). holds_at q (is_in_work_of (number_of E.component))) at ∙ (ap (is_work_of (number_of E.component)) H.owner ∙ apart) in
            ap (is_among y.number) N ∙ not_worked_by y.number key.port (E.component).work (S ∙ ap weight none)
      ]

  -- ---- the links

  pub ports_apart : (k : ℕ) → k < links_of x → same_key (input_at x k) (output_at x k) ≡ false
  ports_apart k d = keys_apart (input_at x k) (output_at x k) (λ q. U.apart k d (sym q))

  link_beside : (k : ℕ) (d : k < links_of x) (o q : List ℕ) (j : ℕ) (u : Landed) (L : Lands_ j u) → k ≢ L.link → is_among u.number q ≡ false → (ks : List HeaderRecord) → IsStill w u ks
      → link_view (ends_with x p k o q) (put_one i u ks) ≡ link_view (ends_with x p k o q) ks
  link_beside k d o q j u L away v ks R =
      let r = beside_ends x p U.cast c xs j L.link k L.pick L.input L.picked d away in
      let Q = subst (λ (z : Landed). IsStill w z ks) L.is R in
      let v2 : is_among (land L.pick L.header).number q ≡ false = ap (λ (z : Landed). is_among z.number q) (sym L.is) ∙ v in
      let z : Landed = land L.pick L.header in
      let one = land_beside (number_of a) (pick_key x c L.pick) z.number z.load ks Q.2 (out_at L.link L.pick L.header ks L.of_link Q) z.spot (ends_with x p k o q) r.0 r.1 v2 in
      ap (λ (u : Landed). link_view (ends_with x p k o q) (put_one i u ks)) L.is
      ∙ ((λ τ. link_view (ends_with x p k o q) (put (record { component = i; port = M.port L.pick L.header τ }) z.spot z.number (loaded z.load) ks)) ∙ one)

  -- no header of it is in another link's part of its works
  off_link : (k : ℕ) (d : k < links_of x) (j : ℕ) (u : Landed) (L : Lands_ j u) → k ≢ L.link → is_among u.number (work_in w.components (input_at x k)) ≡ false
  off_link k d j u L away =
      ap (λ (q : ℕ). is_among q (work_in w.components (input_at x k))) (lands_as j u L)
      ∙ undrained j L.link k L.pick L.input L.header L.picked L.of_link d (ends_differ x U.cast true L.input k L.link d (link_below L.input (x.layout).network c L.link (L.picked).of_link) away)

  -- the headers of two links of the work
  pub other_link : (k j q : ℕ) (y : Picked) (input : Bool) (u : Landed) (L : Lands_ q u) → IsPick x p c xs j y k input → q ≢ j → k ≢ L.link
  other_link k j q y input u L P d = links_differ x p U.cast c xs 0 (length a.ports) (work_rises x p w c a U work f J) j q k L.link y L.pick input L.input P L.picked (λ z. d (sym z))

  pub other_number : (j q : ℕ) (y : Picked) (r : HeaderRecord) (u : Landed) (L : Lands_ q u) → slice_get xs j ≡ Some y → find_header y.number w.headers ≡ Some r → q ≢ j → is_among u.number ((land y r).number ∷ []) ≡ false
  other_number j q y r u L h v d =
      let z : nat_eq u.number (land y r).number ≡ false = ne_eqb u.number (land y r).number (λ o.
      let o2 : (L.pick).number ≡ y.number = sym (lands_as q u L) ∙ (o ∙ M.number y r v) in
      let same : L.pick ≡ y = same_pick q j L.pick y (L.picked).there h o2 in
      let there : slice_get xs q ≡ Some y = (L.picked).there ∙ ap (λ (k : Picked). Some k) same in
      at_two (work_rises x p w c a U work f J) q j y d there h) in
      ap (λ (k : Bool). k || false) z
    where
      at_two : ArePicked 0 xs (length a.ports) → (q j : ℕ) (y : Picked) → q ≢ j → slice_get xs q ≡ Some y → slice_get xs j ≡ Some y → ⊥
      at_two R q j y d h k = picks_differ 0 (length a.ports) xs q j y y R d h k refl

  -- an output's header isn't one that a work has of the input
  pub not_drained : (k : ℕ) (d : k < links_of x) (j : ℕ) (y : Picked) (r : HeaderRecord) → IsPick x p c xs j y k false → IsHeaderOf x w c (number_of a) y k r → is_among (land y r).number (work_in w.components (input_at x k)) ≡ false
  not_drained k d j y r P H = ap (λ (q : ℕ). is_among q (work_in w.components (input_at x k))) (M.number y r H.found) ∙ undrained j k k y false r P H d (λ q. (U.cast).beside k k d d (sym q))

  -- ---- once all have landed

  module _ (hs : List HeaderRecord) (e : hs ≡ all_made (put_one i) ls w.headers) where
    -- a link that no header of the work is of
    pub view_off : (k : ℕ) (d : k < links_of x) → ((j l : ℕ) (y : Picked) (input : Bool) → IsPick x p c xs j y l input → k ≢ l)
        → link_view (ends_with x p k (work_in w.components (output_at x k)) (work_in w.components (input_at x k))) hs ≡ link_view (ends_with x p k (work_in w.components (output_at x k)) (work_in w.components (input_at x k))) w.headers
    view_off k d h =
        let o : List ℕ = work_in w.components (output_at x k) in
        let q : List ℕ = work_in w.components (input_at x k) in
        ap (link_view (ends_with x p k o q)) e
        ∙ fold_beside (put_one i) (IsStill w) AreTwo (still_stays w i) (link_view (ends_with x p k o q)) ls w.headers
        (λ j u v ks R.
        let L = M.each j u v in
        let away = h j L.link L.pick L.input L.picked in
        link_beside k d o q j u L away (off_link k d j u L away) ks R) all_still

    -- the link of an output, by what its header does to it
    pub out_lands : (op : LinkState → LinkState) (k : ℕ) (d : k < links_of x) (j : ℕ) (y : Picked) (r : HeaderRecord) → IsPick x p c xs j y k false → IsHeaderOf x w c (number_of a) y k r
        → ((ks : List HeaderRecord) → IsStill w (land y r) ks
        → link_view (ends_with x p k [] (work_in w.components (input_at x k))) (put_one i (land y r) ks) ≡ op (link_view (ends_with x p k ((land y r).number ∷ []) (work_in w.components (input_at x k))) ks))
        → link_view (ends_with x p k [] (work_in w.components (input_at x k))) hs ≡ op (link_view (ends_with x p k ((land y r).number ∷ []) (work_in w.components (input_at x k))) w.headers)
    out_lands op k d j y r P H here =
        let g2 : List ℕ = work_in w.components (input_at x k) in
        let one : List ℕ = (land y r).number ∷ [] in
        ap (link_view (ends_with x p k [] g2)) e
        ∙ fold_here (put_one i) (IsStill w) AreTwo (still_stays w i) (link_view (ends_with x p k one g2)) (link_view (ends_with x p k [] g2)) op ls j (land y r) w.headers (M.at j k y false r P H)
        (λ q u v h ks R.
        let L = M.each q u h in
        let away = other_link k j q y false u L P v in
        let none = off_link k d q u L away in
        (link_beside k d one g2 q u L away none ks R, link_beside k d [] g2 q u L away none ks R))
        here all_still

    -- and of an input
    pub in_lands : (op : LinkState → LinkState) (k : ℕ) (d : k < links_of x) (j : ℕ) (y : Picked) (r : HeaderRecord) → IsPick x p c xs j y k true → IsHeaderOf x w c (number_of a) y k r
        → ((ks : List HeaderRecord) → IsStill w (land y r) ks
        → link_view (ends_with x p k (work_in w.components (output_at x k)) []) (put_one i (land y r) ks) ≡ op (link_view (ends_with x p k (work_in w.components (output_at x k)) ((land y r).number ∷ [])) ks))
        → link_view (ends_with x p k (work_in w.components (output_at x k)) []) hs ≡ op (link_view (ends_with x p k (work_in w.components (output_at x k)) ((land y r).number ∷ [])) w.headers)
    in_lands op k d j y r P H here =
        let g2 : List ℕ = work_in w.components (output_at x k) in
        let one : List ℕ = (land y r).number ∷ [] in
        ap (link_view (ends_with x p k g2 [])) e
        ∙ fold_here (put_one i) (IsStill w) AreTwo (still_stays w i) (link_view (ends_with x p k g2 one)) (link_view (ends_with x p k g2 [])) op ls j (land y r) w.headers (M.at j k y true r P H)
        (λ q u v h ks R.
        let L = M.each q u h in
        let away = other_link k j q y true u L P v in
        (link_beside k d g2 one q u L away (other_number j q y r u L P.there H.found v) ks R, link_beside k d g2 [] q u L away refl ks R))
        here all_still

    -- where what lands has no mark, and whole frames
    pub landed_links : ((input : Bool) (j l : ℕ) (y : Picked) (r : HeaderRecord) → IsPick x p c xs j y l input → IsHeaderOf x w c (number_of a) y l r → ((land y r).load.mark ≡ None) × (length (land y r).load.content / x.unit l * x.unit l ≡ length (land y r).load.content))
        → (k : ℕ) (r : HeaderRecord) → find_header k hs ≡ Some r → HasLink x r
    landed_links good_load = subst (λ (ks : List HeaderRecord). (k : ℕ) (r : HeaderRecord) → find_header k ks ≡ Some r → HasLink x r) (sym e)
        (fold_stays (put_one i) (IsStill w) AreTwo (still_stays w i) (λ ks. (k : ℕ) (r : HeaderRecord) → find_header k ks ≡ Some r → HasLink x r) ls w.headers
        (λ j u h ks R all.
        let L = M.each j u h in
        let was : Some R.0 ≡ Some L.header = sym R.1 ∙ (ap (λ (k : ℕ). find_header k w.headers) (lands_as j u L) ∙ (L.of_link).found) in
        let same : R.0 ≡ L.header = cc in
        let whole : IsWholeHeader x L.link R.0 = subst (λ (z : HeaderRecord). IsWholeHeader x L.link z) (sym same) (L.of_link).whole in
        let good = good_load L.input j L.link L.pick L.header L.picked L.of_link in
        let load : u.load ≡ (land L.pick L.header).load = ap (λ (z : Landed). z.load) L.is in
        put_links x (record { component = i; port = u.port }) u.spot (loaded u.load) u.number R.0 ks (λ z. refl) R.2 R.3 (record {
          link = L.link;
          below = link_below L.input (x.layout).network c L.link (L.picked).of_link;
          whole = record {
            for_link = whole.for_link;
            unmarked = ap (λ (z : Load). z.mark) load ∙ good.0;
            size = whole.size;
            frames = subst (λ (z : Load). length z.content / x.unit L.link * x.unit L.link ≡ length z.content) (sym load) good.1;
          };
        }) all)
        all_still U.headers)

    -- each header then is for the ports that it was for
    pub landed_states : (k : ℕ) (r : HeaderRecord) → find_header k hs ≡ Some r → (q : HeaderRecord) × (find_header k w.headers ≡ Some q) × ((at : PortKey) → is_for at r.state ≡ is_for at q.state)
    landed_states = subst (λ (ks : List HeaderRecord). (k : ℕ) (r : HeaderRecord) → find_header k ks ≡ Some r → (q : HeaderRecord) × (find_header k w.headers ≡ Some q) × ((at : PortKey) → is_for at r.state ≡ is_for at q.state)) (sym e)
        (fold_stays (put_one i) (IsStill w) AreTwo (still_stays w i) (λ ks. (k : ℕ) (r : HeaderRecord) → find_header k ks ≡ Some r → (q : HeaderRecord) × (find_header k w.headers ≡ Some q) × ((at : PortKey) → is_for at r.state ≡ is_for at q.state)) ls w.headers
        (λ j u h ks R all k r v.
        let key : PortKey = record { component = i; port = u.port } in
        let Q = replaced_put key u.spot (loaded u.load) (λ _. refl) u.number ks R.0 R.2 R.3 in
        elim (cases_eq k u.number) [
          | inl o ↦
              let z : Some (put_at key u.spot (loaded u.load R.0)) ≡ Some r = sym Q.here ∙ (ap (λ (y : ℕ). find_header y (put_one i u ks)) (sym o) ∙ v) in
              let is : put_at key u.spot (loaded u.load R.0) ≡ r = cc in
              let was = all u.number R.0 R.3 in
              (was.0, ap (λ (y : ℕ). find_header y w.headers) o ∙ was.1, λ at. ap (λ (y : HeaderRecord). is_for at y.state) (sym is) ∙ was.2 at)
          | inr o ↦ all k r (sym (Q.others k o) ∙ v)
        ])
        all_still (λ k r v. (r, v, λ at. refl)))

  -- ---- the works of the components, where this one has none then

  module _ (d : Component) (n : d.work ≡ None) where
    abbrev after : PortKey → List ℕ
    after = work_in (set w.components i d)

    pub after_own : (input : Bool) (k : ℕ) → IsLinkAt input (x.layout).network c k → after (end_at input x k) ≡ []
    after_own input k I = works_here w.components i a d U.there (end_at input x k) (end_place input x c k I) ∙ ap (λ (o : Option Work). worked_at o (end_at input x k).port) n

    pub after_other : (s2 t2 : Bool) (k : ℕ) → (end_at s2 x k).component ≢ (end_at t2 x k).component → (end_at s2 x k).component ≡ i → after (end_at t2 x k) ≡ work_in w.components (end_at t2 x k)
    after_other s2 t2 k q h = works_else w.components i a d U.there (end_at t2 x k) (λ z. q (h ∙ sym z))

    -- the end of a link that no header of the work is of
    pub after_off : (s2 : Bool) (k : ℕ) → k < links_of x → ((j l : ℕ) (y : Picked) (input : Bool) → IsPick x p c xs j y l input → k ≢ l) → after (end_at s2 x k) ≡ work_in w.components (end_at s2 x k)
    after_off s2 k b h =
        let key : PortKey = end_at s2 x k in
        elim (cases_eq key.component i) [
          | inl o ↦
              let own : work_in w.components key ≡ picked_at key.port xs = own_works x p w c a U key o ∙ ap (λ (q : Option Work). worked_at q key.port) f in
              works_here w.components i a d U.there key o ∙ ap (λ (q : Option Work). worked_at q key.port) n
              ∙ sym (own ∙ picked_none key.port xs (λ j y v u.
              let P = pick_link x p w c a U (before_end x p w c a U work f J) xs J.ports j y v in
              let z : pick_key x c y ≡ key = λ τ. record { component = sym o τ; port = u τ } in
              ends_differ x U.cast s2 P.1 k P.0 b (link_below P.1 (x.layout).network c P.0 (P.2).of_link) (h j P.0 y P.1 P.2) (sym z ∙ key_is_end x p U.cast c xs j P.0 y P.1 P.2)))
          | inr o ↦ works_else w.components i a d U.there key o
        ]
