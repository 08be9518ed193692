-- A claim keeps the bytes on their way: the front of an input's todo goes to the work, and stands where it stood; a work that announces has
-- no header.
use Rattle.std.proofs.Common.{◌≡◌, ◌≢◌, inl, inr, ℕ, ◌<◌, Bool, true, false, List, [], ◌∷◌, ◌++◌, length, slice_get, Some, None, refl, sym, ◌∙◌, ap}
use Rattle.std.proofs.lemmas.Bool.{cases_eq}
use Rattle.il_machine.specs.declared.header.Owner.TheVariants as owners
use Rattle.il_machine.specs.declared.port.PortKey.{PortKey}
use Rattle.il_machine.specs.World.{Component, HeaderRecord, Picked, Work, World, number_of}
use Rattle.il_machine.specs.Headers.{seen, changed, given_to, Once}
use Rattle.il_machine.specs.Look.{look}
use Rattle.il_machine.specs.Claims.{all_given_out, claim_idle, must_announce, picked, wanted, with_work, work_of}
use Rattle.il_machine.specs.Sound.{ArePicked}
use Rattle.machine_laws.proofs.Claiming.{claim_passes}
use Rattle.machine_laws.proofs.Every.{set_there}
use Rattle.machine_laws.proofs.Finding.{either}
use Rattle.machine_laws.proofs.Parts.{parts_of}
use Rattle.play_model.specs.Play.{Play}
use Rattle.play_world_laws.specs.View.{picked_at}
use Rattle.play_world_laws.proofs.Works.{IsGiven, is_given}
use Rattle.play_world_laws.specs.Cast.{Cast, links_of, script_place, taker_of, output_at, input_at}
use Rattle.play_world_laws.specs.Wiring.{work_in}
use Rattle.play_world_laws.specs.Worlds.{IsBeforeRest}
use Rattle.play_world_laws.proofs.Flowing.{key_not}
use Rattle.play_world_laws.proofs.Folds.{fold_beside, fold_here}
use Rattle.play_world_laws.proofs.Picks.{IsPick, key_is_end, pick_key, picked_none, picked_one, picks_differ, works_else, works_here}
use Rattle.play_world_laws.proofs.Wanted.{link_below}
use Rattle.play_stream_laws.specs.Flowing.{bytes_on, contents_of, flowing_in, numbers_on}
use Rattle.play_stream_laws.proofs.Closing.{parts_kept}
use Rattle.play_stream_laws.proofs.Keeping.{KeepsFlow}
use Rattle.play_stream_laws.proofs.Listing.{contents_same}
use Rattle.play_step_laws.proofs.Claimable.{before_rest, own_works, claim_can}
use Rattle.play_step_laws.proofs.Claims.{AreTwoPorts, IsFirst, firsts, first_stays, goes_out, out_is, ports_are, sound}
use Rattle.play_step_laws.proofs.Picks.{link_pick, pick_link}
use Rattle.play_step_laws.proofs.Poised.{IsPoised}

-- ---- the bytes of a link as one header goes out

module _ (k : ℕ) (output input : PortKey) (key : PortKey) (n : ℕ) (ns : List ℕ) (hs : List HeaderRecord) (o : Once hs) (e : (seen hs).todo key ≡ n ∷ ns) where
  abbrev ks : List HeaderRecord
  ks = changed n (given_to (owners.Work k)) hs

  G : IsGiven key n ns hs ks
  G = is_given (owners.Work k) key n ns hs o e

  out_beside : (ds : List ℕ) → input ≢ key → bytes_on output input ds ks ≡ bytes_on output input ds hs
  out_beside ds d =
      let t = G.todo input (key_not input key d) in
      let s = G.done output in
      ap (contents_of ks) (λ i. (ds ++ t i) ++ s i) ∙ contents_same hs ks (numbers_on output input ds hs) G.loads

  out_here : input ≡ key → bytes_on output input (n ∷ []) ks ≡ bytes_on output input [] hs
  out_here d =
      let gone : (seen ks).todo input ≡ ns = ap (λ (q : PortKey). (seen ks).todo q) d ∙ G.gone in
      let was : (seen hs).todo input ≡ n ∷ ns = ap (λ (q : PortKey). (seen hs).todo q) d ∙ e in
      let s = G.done output in
      ap (contents_of ks) ((λ i. (n ∷ gone i) ++ s i) ∙ (λ i. sym was i ++ (seen hs).done output)) ∙ contents_same hs ks (numbers_on output input [] hs) G.loads

-- ---- the world with the work

module _ (x : Cast) (p : Play) (w : World) (c : ℕ) (a : Component) (U : IsPoised x p w c a) (free : a.work ≡ None) (idle : claim_idle (look w) a ≡ None) where
  abbrev i : ℕ
  i = script_place x c

  abbrev work : Work
  work = work_of (seen w.headers) a

  abbrev d : Component
  d = record a { work = Some work }

  abbrev v : World
  v = with_work i a work w

  abbrev xs : List Picked
  xs = work.headers

  before : IsBeforeRest p c
  before = before_rest x p w c a U (claim_can x p w c a U free (claim_passes (look w) a idle)).0

  rising : ArePicked 0 xs (length a.ports)
  rising = ((parts_of v (sound x p w c a U free idle)).lawful i d work (set_there w.components i a d U.there) refl).rising

  pick_of : (j : ℕ) (y : Picked) → slice_get xs j ≡ Some y → (l : ℕ) × (input : Bool) × IsPick x p c xs j y l input
  pick_of = pick_link x p w c a U before xs (ports_are x p w c a U free idle)

  -- ---- a link whose input gives no header to the work

  module _ (k : ℕ) (m : k < links_of x) (none : (j : ℕ) (y : Picked) → slice_get xs j ≡ Some y → input_at x k ≢ pick_key x c y) where
    beside_bytes : (ds : List ℕ) → bytes_on (output_at x k) (input_at x k) ds v.headers ≡ bytes_on (output_at x k) (input_at x k) ds w.headers
    beside_bytes ds =
        ap (bytes_on (output_at x k) (input_at x k) ds) (out_is x p w c a U free idle)
        ∙ fold_beside (goes_out (number_of a)) (IsFirst x c) AreTwoPorts (first_stays x c (number_of a)) (bytes_on (output_at x k) (input_at x k) ds) xs w.headers
        (λ j y f ks r. out_beside (number_of a) (output_at x k) (input_at x k) (pick_key x c y) y.number r.1 ks r.0 r.2 ds (none j y f)) (firsts x p w c a U free idle)

    unpicked : work_in v.components (input_at x k) ≡ work_in w.components (input_at x k)
    unpicked =
        let key : PortKey = input_at x k in
        elim (cases_eq key.component i) [
          | inl t ↦
              let was : work_in w.components key ≡ [] = own_works x p w c a U key t ∙ rw free refl in
              works_here w.components i a d U.there key t
              ∙ (picked_none key.port xs (λ j y f g. none j y f (λ u. record { component = t u; port = sym g u }))
              ∙ sym was)
          | inr t ↦ works_else w.components i a d U.there key t
        ]

    none_flow : flowing_in x v k ≡ flowing_in x w k
    none_flow = ap (λ (ds : List ℕ). bytes_on (output_at x k) (input_at x k) ds v.headers) unpicked ∙ beside_bytes (work_in w.components (input_at x k))

  -- ---- one whose input does

  module _ (k : ℕ) (j : ℕ) (y : Picked) (P : IsPick x p c xs j y k true) where
    its_key : input_at x k ≡ pick_key x c y
    its_key = sym (key_is_end x p U.cast c xs j k y true P)

    picked_flow : flowing_in x v k ≡ flowing_in x w k
    picked_flow =
        let key : PortKey = input_at x k in
        let place : key.component ≡ i = ap (λ (z : PortKey). z.component) its_key in
        let own : work_in v.components key ≡ y.number ∷ [] = works_here w.components i a d U.there key place ∙ (ap (λ (z : ℕ). picked_at z xs) (ap (λ (z : PortKey). z.port) its_key) ∙ picked_one 0 (length a.ports) xs j y rising P.there) in
        let was : work_in w.components key ≡ [] = own_works x p w c a U key place ∙ rw free refl in
        let output : PortKey = output_at x k in
        let other : (t : ℕ) (u : Picked) → slice_get xs t ≡ Some u → t ≢ j → key ≢ pick_key x c u = λ t u f n q.
        picks_differ 0 (length a.ports) xs t j u y rising n f P.there (ap (λ (z : PortKey). z.port) (sym q ∙ its_key)) in
        ap (λ (ds : List ℕ). bytes_on output key ds v.headers) own
        ∙ (ap (bytes_on output key (y.number ∷ [])) (out_is x p w c a U free idle)
        ∙ (fold_here (goes_out (number_of a)) (IsFirst x c) AreTwoPorts (first_stays x c (number_of a)) (bytes_on output key []) (bytes_on output key (y.number ∷ [])) (λ z. z) xs j y w.headers P.there
        (λ t u n f ks r. (
          out_beside (number_of a) output key (pick_key x c u) u.number r.1 ks r.0 r.2 [] (other t u f n),
          out_beside (number_of a) output key (pick_key x c u) u.number r.1 ks r.0 r.2 (y.number ∷ []) (other t u f n),
        ))
        (λ ks r. out_here (number_of a) output key (pick_key x c y) y.number r.1 ks r.0 r.2 its_key) (firsts x p w c a U free idle)
        ∙ sym (ap (λ (ds : List ℕ). bytes_on output key ds w.headers) was)))

  -- ---- all links

  key_apart : (k : ℕ) → k < links_of x → ((p.flow).link k).closed ≡ true → (j l : ℕ) (y : Picked) (input : Bool) → IsPick x p c xs j y l input → input_at x k ≢ pick_key x c y
  key_apart k m s j l y true P q =
      let same : k ≡ l = (U.cast).inputs k l m (link_below true (x.layout).network c l P.of_link) (q ∙ key_is_end x p U.cast c xs j l y true P) in
      let z : true ≡ false = sym s ∙ (ap (λ (u : ℕ). ((p.flow).link u).closed) same ∙ P.open_) in
      absurd cc
  key_apart k m s j l y false P q = (U.cast).beside l k (link_below false (x.layout).network c l P.of_link) m (sym (q ∙ key_is_end x p U.cast c xs j l y false P))

  claim_bytes : (k : ℕ) → k < links_of x → flowing_in x v k ≡ flowing_in x w k
  claim_bytes k m = elim (cases_eq (taker_of x k) c) [
    | inl t ↦ either ((p.flow).link k).closed
        (λ s. none_flow k m (λ j y f. let Q = pick_of j y f in key_apart k m s j Q.0 y Q.1 Q.2))
        (λ s. let r = link_pick x p w c a U before xs (ports_are x p w c a U free idle) true k (record { below = m; taken_by = t }) s in picked_flow k r.0 r.1 r.2)
    | inr t ↦ none_flow k m (λ j y f q. t ((U.cast).apart (taker_of x k) c ((((U.cast).layout).network).inside k m) U.below (ap (λ (z : PortKey). z.component) q)))
  ]

  pub claim_flow : KeepsFlow x w v
  claim_flow = record { bytes = claim_bytes; parts = parts_kept w v i a d U.there refl refl }

-- ---- an announcement

pub announced_flow : (x : Cast) (w : World) (i : ℕ) (a : Component) → slice_get w.components i ≡ Some a → a.work ≡ None → must_announce a ≡ true → KeepsFlow x w (with_work i a (work_of (seen w.headers) a) w)
announced_flow x w i a e free m =
    let work : Work = work_of (seen w.headers) a in
    let d : Component = record a { work = Some work } in
    let v : World = with_work i a work w in
    let wants : wanted a ≡ [] = rw m refl in
    let none : work.headers ≡ [] = ap (picked (seen w.headers)) wants in
    let headers : v.headers ≡ w.headers = ap (λ (ys : List Picked). all_given_out (number_of a) ys w.headers) none in
    record {
      bytes = λ l b.
          let key : PortKey = input_at x l in
          let works : work_in v.components key ≡ work_in w.components key = elim (cases_eq key.component i) [
            | inl t ↦ works_here w.components i a d e key t ∙ (ap (picked_at key.port) none ∙ sym (own key t))
            | inr t ↦ works_else w.components i a d e key t
          ] in
          λ τ. bytes_on (output_at x l) key (works τ) (headers τ);
      parts = parts_kept w v i a d e refl refl;
    }
  where
    own : (key : PortKey) → key.component ≡ i → work_in w.components key ≡ []
    own key t = rw (t, e, free) refl
