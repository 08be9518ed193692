-- The bytes on their way after the headers of a work landed, by what each lands as.
use Rattle.std.proofs.Common.{◌≡◌, ◌≢◌, ℕ, ◌<◌, Bool, true, false, List, [], ◌∷◌, ◌++◌, Some, refl, sym, ◌∙◌, ap, subst}
use Rattle.il_machine.specs.World.{Component, HeaderRecord, Picked, Work, World, number_of}
use Rattle.il_machine.specs.Headers.{loaded, put, seen}
use Rattle.play_model.specs.Play.{Play}
use Rattle.play_world_laws.specs.View.{is_in}
use Rattle.play_world_laws.specs.Cast.{Cast, links_of, script_place, output_at, input_at}
use Rattle.play_world_laws.specs.PlayWorlds.{IsPlayWorld, PlayCast}
use Rattle.play_world_laws.specs.Wiring.{work_in}
use Rattle.play_world_laws.specs.Worlds.{IsWork}
use Rattle.play_world_laws.proofs.Folds.{all_made, fold_beside, fold_here}
use Rattle.play_world_laws.proofs.Landings.{Landed, put_one}
use Rattle.play_world_laws.proofs.Picks.{IsPick, ends_differ, key_is_end, pick_key}
use Rattle.play_world_laws.proofs.Wanted.{link_below}
use Rattle.play_world_laws.proofs.Worked.{IsHeaderOf}
use Rattle.play_step_laws.proofs.HeadersLand.{AllLand, AreTwo, IsStill, Lands, all_still, lands_as, other_link, other_number, out_at, still_stays}
use Rattle.play_step_laws.proofs.Poised.{IsPoised}
use Rattle.play_step_laws.proofs.Worked.{own_picked}
use Rattle.play_stream_laws.specs.Flowing.{bytes_on, flowing_in}
use Rattle.play_stream_laws.proofs.Links.{AreOf}
use Rattle.play_stream_laws.proofs.PlayLinks.{all_of, not_among}
use Rattle.play_stream_laws.proofs.Putting.{put_beside}

of_front : (x : Cast) (l : ℕ) (hs : List HeaderRecord) (ms ns : List ℕ) → AreOf x l hs (ms ++ ns) → AreOf x l hs ms
of_front x l hs [] ns A = tt
of_front x l hs (m ∷ ms) ns A = (A.0, of_front x l hs ms ns A.1)

module _ (x : PlayCast) (recent : ℕ) (p : Play) (w : World) (W : IsPlayWorld x recent p w) (c : ℕ) (a : Component) (U : IsPoised x.cast p w c a) (work : Work) (f : a.work ≡ Some work) (J : IsWork x.cast p c a work)
    (land : Picked → HeaderRecord → Landed) (ls : List Landed) (M : AllLand x.cast p w c a work land ls) where
  abbrev i : ℕ
  i = script_place x.cast c

  abbrev on : ℕ → List ℕ → List HeaderRecord → List ℕ
  on k ds ks = bytes_on (output_at x.cast k) (input_at x.cast k) ds ks

  -- ---- a header of another link

  -- it isn't among those of this one
  other_among : (k : ℕ) (d : k < links_of x.cast) (j : ℕ) (u : Landed) (L : Lands x.cast p w c a work land j u) → k ≢ L.link → (ns : List ℕ) → AreOf x.cast k w.headers ns → is_in u.number ns ≡ false
  other_among k d j u L away ns O =
      ap (λ (q : ℕ). is_in q ns) (lands_as x.cast p w c a U work f J land ls M j u L)
      ∙ not_among x recent p w W L.link k (L.pick).number (link_below L.input ((x.cast).layout).network c L.link (L.picked).of_link) d away (record { header = L.header; found = (L.of_link).found; whole = (L.of_link).whole }) ns O

  one_beside : (k : ℕ) (d : k < links_of x.cast) (ds : List ℕ) (j : ℕ) (u : Landed) (L : Lands x.cast p w c a work land j u) → k ≢ L.link → is_in u.number ds ≡ false → (ks : List HeaderRecord) → IsStill w u ks → on k ds (put_one i u ks) ≡ on k ds ks
  one_beside k d ds j u L away v ks R =
      let below = link_below L.input ((x.cast).layout).network c L.link (L.picked).of_link in
      let key = key_is_end x.cast p U.cast c work.headers j L.link L.pick L.input L.picked in
      let z : Landed = land L.pick L.header in
      let Q = subst (λ (y : Landed). IsStill w y ks) L.is R in
      let v2 : is_in z.number ds ≡ false = ap (λ (y : Landed). is_in y.number ds) (sym L.is) ∙ v in
      ap (λ (y : Landed). on k ds (put_one i y ks)) L.is
      ∙ ((λ τ. on k ds (put (record { component = i; port = M.port L.pick L.header τ }) z.spot z.number (loaded z.load) ks))
      ∙ put_beside (number_of a) (pick_key x.cast c L.pick) z.spot z.number z.load ks Q.2 (out_at x.cast p w c a U work f J land ls M L.link L.pick L.header ks L.of_link Q) (output_at x.cast k) (input_at x.cast k) ds
      (λ q. ends_differ x.cast U.cast false L.input k L.link d below away (q ∙ key))
      (λ q. ends_differ x.cast U.cast true L.input k L.link d below away (q ∙ key)) v2)

  -- those that a work has of this link
  works_of : (k : ℕ) → k < links_of x.cast → AreOf x.cast k w.headers (work_in w.components (input_at x.cast k))
  works_of k d = of_front x.cast k w.headers (work_in w.components (input_at x.cast k)) ((seen w.headers).todo (input_at x.cast k)) (of_front x.cast k w.headers (work_in w.components (input_at x.cast k) ++ (seen w.headers).todo (input_at x.cast k)) ((seen w.headers).done (output_at x.cast k)) (all_of x recent p w W k d))

  pub ports_apart : (k : ℕ) → k < links_of x.cast → input_at x.cast k ≢ output_at x.cast k
  ports_apart k d q = (U.cast).beside k k d d (sym q)

  -- ---- once all have landed

  module _ (hs : List HeaderRecord) (e : hs ≡ all_made (put_one i) ls w.headers) where
    -- a link that no header of the work is of
    pub off_bytes : (k : ℕ) (d : k < links_of x.cast) → ((j l : ℕ) (y : Picked) (input : Bool) → IsPick x.cast p c work.headers j y l input → k ≢ l) → on k (work_in w.components (input_at x.cast k)) hs ≡ flowing_in x.cast w k
    off_bytes k d h =
        let ds : List ℕ = work_in w.components (input_at x.cast k) in
        ap (on k ds) e
        ∙ fold_beside (put_one i) (IsStill w) AreTwo (still_stays w i) (on k ds) ls w.headers
        (λ j u v ks R.
        let L = M.each j u v in
        let away = h j L.link L.pick L.input L.picked in
        one_beside k d ds j u L away (other_among k d j u L away ds (works_of k d)) ks R) (all_still x.cast p w c a U work f J land ls M)

    -- the link of an output, by what its header does to it
    pub out_bytes : (op : List ℕ → List ℕ) (k : ℕ) (d : k < links_of x.cast) (j : ℕ) (y : Picked) (r : HeaderRecord) → IsPick x.cast p c work.headers j y k false → IsHeaderOf x.cast w c (number_of a) y k r
        → ((ks : List HeaderRecord) → IsStill w (land y r) ks → on k (work_in w.components (input_at x.cast k)) (put_one i (land y r) ks) ≡ op (on k (work_in w.components (input_at x.cast k)) ks))
        → on k (work_in w.components (input_at x.cast k)) hs ≡ op (flowing_in x.cast w k)
    out_bytes op k d j y r P H here =
        let ds : List ℕ = work_in w.components (input_at x.cast k) in
        ap (on k ds) e
        ∙ fold_here (put_one i) (IsStill w) AreTwo (still_stays w i) (on k ds) (on k ds) op ls j (land y r) w.headers (M.at j k y false r P H)
        (λ q u v h ks R.
        let L = M.each q u h in
        let away = other_link x.cast p w c a U work f J land ls M k j q y false u L P v in
        let one = one_beside k d ds q u L away (other_among k d q u L away ds (works_of k d)) ks R in
        (one, one))
        here (all_still x.cast p w c a U work f J land ls M)

    -- and of an input
    pub in_bytes : (op : List ℕ → List ℕ) (k : ℕ) (d : k < links_of x.cast) (j : ℕ) (y : Picked) (r : HeaderRecord) → IsPick x.cast p c work.headers j y k true → IsHeaderOf x.cast w c (number_of a) y k r
        → ((ks : List HeaderRecord) → IsStill w (land y r) ks → on k [] (put_one i (land y r) ks) ≡ op (on k ((land y r).number ∷ []) ks))
        → on k [] hs ≡ op (flowing_in x.cast w k)
    in_bytes op k d j y r P H here =
        let one : List ℕ = (land y r).number ∷ [] in
        let own : work_in w.components (input_at x.cast k) ≡ one = own_picked x.cast p w c a U work f J j k y true P ∙ ap (λ (q : ℕ). q ∷ []) (sym (M.number y r H.found)) in
        ap (on k []) e
        ∙ (fold_here (put_one i) (IsStill w) AreTwo (still_stays w i) (on k one) (on k []) op ls j (land y r) w.headers (M.at j k y true r P H)
        (λ q u v h ks R.
        let L = M.each q u h in
        let away = other_link x.cast p w c a U work f J land ls M k j q y true u L P v in
        let among = other_number x.cast p w c a U work f J land ls M j q y r u L P.there H.found v in
        (one_beside k d one q u L away among ks R, one_beside k d [] q u L away refl ks R))
        here (all_still x.cast p w c a U work f J land ls M)
        ∙ ap (λ (q : List ℕ). op (on k q w.headers)) (sym own))
