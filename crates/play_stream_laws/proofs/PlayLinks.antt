-- The headers on their way in a link of a world with late sources are the link's, and no other's; so each has whole frames, and they have
-- as many as the model's queue. In a late source's link whose output isn't enabled again there is none.
use Rattle.std.proofs.Common.{◌≡◌, ◌≢◌, inl, inr, ℕ, suc, ◌*◌, ◌<◌, Bool, true, false, nat_eq, List, [], ◌∷◌, ◌++◌, length, map, slice_get, option_and_then, Option, Some, None, refl, sym, ◌∙◌, ap, subst, eqb-true}
use Rattle.il_machine.specs.declared.port.PortKey.{PortKey}
use Rattle.il_machine.specs.declared.header.Owner.{Owner}
use Rattle.il_machine.specs.declared.header.Owner.TheVariants as owners
use Rattle.il_machine.specs.Sound.{IsOwnedSo, IsPickedFor}
use Rattle.il_machine.specs.World.{Component, HeaderRecord, Picked, Work, World, number_of}
use Rattle.il_machine.specs.Headers.{seen, find_header, is_for, Once}
use Rattle.machine_laws.proofs.Every.{at_place}
use Rattle.machine_laws.proofs.Finding.{either}
use Rattle.machine_laws.proofs.Listed.{AreIn, IsIn, header_there, todo_in, done_in}
use Rattle.machine_laws.proofs.Parts.{parts_of, ports_in_list}
use Rattle.play_model.specs.Network.{Filled, frames_in, queue}
use Rattle.play_model.specs.Play.{Play}
use Rattle.play_world_laws.specs.View.{filled, is_in, picked_at, worked_at}
use Rattle.play_world_laws.proofs.Counts.{owner_is, to_output}
use Rattle.play_world_laws.specs.Cast.{Cast, links_of, output_at, input_at, supplier_of, script_place, taker_of}
use Rattle.play_world_laws.specs.Wiring.{work_in}
use Rattle.play_world_laws.specs.Worlds.{IsWholeHeader}
use Rattle.play_stream_laws.specs.Flowing.{numbers_on, flowing_in}
use Rattle.play_stream_laws.proofs.Links.{AreOf, IsOf, of_append, of_frames}
use Rattle.play_stream_laws.proofs.Listing.{frames_long, map_append}
use Rattle.play_world_laws.specs.Changing.{is_joined_at}
use Rattle.play_world_laws.specs.PlayWorlds.{IsActorAt, IsPlayWorld, PlayCast, end_of_link}
use Rattle.play_world_laws.proofs.ChangeCounts.{tunnel}
use Rattle.play_world_laws.proofs.ChangeEnds.{actor_there}

map_none : {A B : Type 0} (f : A → B) (xs : List A) → map f xs ≡ [] → xs ≡ []
map_none f [] h = refl
map_none f (x ∷ xs) h = absurd cc

-- the numbers of the headers that are on their way in a link
abbrev pub numbers_in : Cast → World → ℕ → List ℕ
numbers_in x w l = numbers_on (output_at x l) (input_at x l) (work_in w.components (input_at x l)) w.headers

module _ (x : PlayCast) (recent : ℕ) (p : Play) (w : World) (W : IsPlayWorld x recent p w) where
  -- a link that has a header has its tunnel
  joined : (o : Bool) (l n : ℕ) (r : HeaderRecord) → l < links_of x.cast → find_header n w.headers ≡ Some r → is_for (end_of_link x.cast o l) r.state ≡ true → is_joined_at (p.change l).step ≡ true
  joined o l n r d h s = either (((x.cast).layout).is_late l)
      (λ t. W.tunnelled n r o l h d t s)
      (λ f. ap is_joined_at (((W.reached).changes l d).fixed f))

  for_output : (o : Bool) (l n : ℕ) (r : HeaderRecord) → l < links_of x.cast → find_header n w.headers ≡ Some r → is_for (end_of_link x.cast o l) r.state ≡ true → is_for (output_at x.cast l) r.state ≡ true
  for_output true l n r d h s = s
  for_output false l n r d h s =
      let P = parts_of w W.sound in
      let T = tunnel x recent p w W l d (joined false l n r d h s) in
      to_output (ports_in_list w.components) w.headers (output_at x.cast l) (input_at x.cast l) (supplier_of x.cast l) P.tied T r.state (P.tied.placed n r h) s

  -- a header is of one link
  pub one_link : (l m n : ℕ) (r : HeaderRecord) → l < links_of x.cast → m < links_of x.cast → find_header n w.headers ≡ Some r → is_for (output_at x.cast l) r.state ≡ true → is_for (output_at x.cast m) r.state ≡ true → l ≡ m
  one_link l m n r d k h s t =
      let P = parts_of w W.sound in
      let T = tunnel x recent p w W l d (joined true l n r d h s) in
      elim (owner_is (ports_in_list w.components) w.headers (output_at x.cast l) (input_at x.cast l) (supplier_of x.cast l) P.tied T r.state (output_at x.cast m) (P.tied.placed n r h) s t) [
        | inl q ↦ (W.cast_is).outputs l m d k (sym q)
        | inr q ↦ absurd ((W.cast_is).beside m l k d q)
      ]

  pub of_end : (o : Bool) (l n : ℕ) (r : HeaderRecord) → l < links_of x.cast → find_header n w.headers ≡ Some r → is_for (end_of_link x.cast o l) r.state ≡ true → IsOf x.cast l w.headers n
  of_end o l n r d h s =
      let H = W.headers n r h in
      let same : H.link ≡ l = one_link H.link l n r H.below d h (H.whole).for_link (for_output o l n r d h s) in
      record { header = r; found = h; whole = subst (λ (k : ℕ). IsWholeHeader x.cast k r) same H.whole }

  -- one that an end owns
  pub of_owner : (o : Bool) (l n : ℕ) → l < links_of x.cast → IsIn (end_of_link x.cast o l) w.headers n → IsOf x.cast l w.headers n
  of_owner o l n d I =
      let r : HeaderRecord = I.header in
      let O : IsOwnedSo r.state (owners.Port (end_of_link x.cast o l)) = subst (λ (y : Owner). IsOwnedSo r.state y) I.owner ((parts_of w W.sound).tied.placed n r I.found).owner in
      of_end o l n r d I.found O.0

  -- those in the lists of an end
  of_list : (o : Bool) (l : ℕ) (ns : List ℕ) → l < links_of x.cast → AreIn (end_of_link x.cast o l) w.headers ns → AreOf x.cast l w.headers ns
  of_list o l [] d A = tt
  of_list o l (n ∷ ns) d A = (of_owner o l n d A.0, of_list o l ns d A.1)

  -- those that a work of the input's component has
  of_picks : (l number : ℕ) (xs : List Picked) → l < links_of x.cast → number ≡ script_place x.cast (taker_of x.cast l) → ((j : ℕ) (y : Picked) → slice_get xs j ≡ Some y → IsPickedFor (seen w.headers) number y)
      → AreOf x.cast l w.headers (picked_at (input_at x.cast l).port xs)
  of_picks l number [] d e h = tt
  of_picks l number (y ∷ xs) d e h =
      let rest = of_picks l number xs d e (λ j z f. h (suc j) z f) in
      either (nat_eq y.port (input_at x.cast l).port)
      (λ t.
      let r = header_there (find_header y.number w.headers) (λ s. is_for (record { component = number; port = y.port }) s ≡ true) (h 0 y refl) in
      let port : y.port ≡ (input_at x.cast l).port = eqb-true _ _ t in
      let key : is_for (input_at x.cast l) (r.0).state ≡ true = subst (λ (k : PortKey). is_for k (r.0).state ≡ true) (λ i. record { component = e i; port = port i }) r.2 in
      rw t (of_end false l y.number r.0 d r.1 key, rest))
      (λ f. rw f rest)

  pub of_work : (l : ℕ) → l < links_of x.cast → AreOf x.cast l w.headers (work_in w.components (input_at x.cast l))
  of_work l d =
      let g = taker l d in
      let is : work_in w.components (input_at x.cast l) ≡ worked_at (g.0).work (input_at x.cast l).port = ap (λ (q : Option Component). worked_at (option_and_then (λ z. z.work) q) (input_at x.cast l).port) g.1 in
      subst (λ (ns : List ℕ). AreOf x.cast l w.headers ns) (sym is) (by_work (g.0).work refl)
    where
      taker : (l : ℕ) → l < links_of x.cast → (a : Component) × (slice_get w.components (script_place x.cast (taker_of x.cast l)) ≡ Some a) × IsActorAt x recent p w (taker_of x.cast l) a
      taker l d = actor_there x recent p w (taker_of x.cast l) W ((((W.cast_is).layout).network).inside l d)

      by_work : (o : Option Work) → (taker l d).0.work ≡ o → AreOf x.cast l w.headers (worked_at o (input_at x.cast l).port)
      by_work None f = tt
      by_work (Some work) f =
          let g = taker l d in
          let P = parts_of w W.sound in
          of_picks l (number_of g.0) work.headers d (g.2).number
          (λ j y h. at_place (IsPickedFor (seen w.headers) (number_of g.0)) work.headers j y ((P.works).made (script_place x.cast (taker_of x.cast l)) g.0 work g.1 f) h)

  pub all_of : (l : ℕ) → l < links_of x.cast → AreOf x.cast l w.headers (numbers_in x.cast w l)
  all_of l d =
      let once : Once w.headers = (W.sound).once in
      of_append x.cast l w.headers (work_in w.components (input_at x.cast l) ++ (seen w.headers).todo (input_at x.cast l)) ((seen w.headers).done (output_at x.cast l))
      (of_append x.cast l w.headers (work_in w.components (input_at x.cast l)) ((seen w.headers).todo (input_at x.cast l)) (of_work l d) (of_list false l ((seen w.headers).todo (input_at x.cast l)) d (todo_in (input_at x.cast l) w.headers once)))
      (of_list true l ((seen w.headers).done (output_at x.cast l)) d (done_in (output_at x.cast l) w.headers once))

  -- what they are for the model
  queue_is : (l : ℕ) → l < links_of x.cast → queue ((p.flow).link l) ≡ map (filled ((x.cast).unit l) w.headers) (numbers_in x.cast w l)
  queue_is l d =
      let f : ℕ → Filled = filled ((x.cast).unit l) w.headers in
      let held : List ℕ = work_in w.components (input_at x.cast l) ++ (seen w.headers).todo (input_at x.cast l) in
      ap queue (W.viewed l d) ∙ sym (map_append f held ((seen w.headers).done (output_at x.cast l)))

  -- as many frames as the model's queue has
  pub flow_long : (l : ℕ) → l < links_of x.cast → length (flowing_in x.cast w l) ≡ frames_in (queue ((p.flow).link l)) * (x.cast).unit l
  flow_long l d = sym (ap (λ (q : List Filled). frames_in q * (x.cast).unit l) (queue_is l d) ∙ frames_long ((x.cast).unit l) w.headers (numbers_in x.cast w l) (of_frames x.cast l w.headers (numbers_in x.cast w l) (all_of l d)))

  -- none is on its way before the output is enabled again
  pub quiet_numbers : (l : ℕ) → l < links_of x.cast → ((x.cast).layout).is_late l ≡ true → (p.change l).output < 7 → numbers_in x.cast w l ≡ []
  quiet_numbers l d t n = map_none (filled ((x.cast).unit l) w.headers) (numbers_in x.cast w l) (sym (queue_is l d) ∙ (((W.reached).changes l d).quiet t n).0)

-- ---- a header of another link isn't among them

pub not_among : (x : PlayCast) (recent : ℕ) (p : Play) (w : World) (W : IsPlayWorld x recent p w) (l k n : ℕ) → l < links_of x.cast → k < links_of x.cast → k ≢ l → IsOf x.cast l w.headers n → (ns : List ℕ) → AreOf x.cast k w.headers ns → is_in n ns ≡ false
not_among x recent p w W l k n d e o I [] A = refl
not_among x recent p w W l k n d e o I (m ∷ ns) A = either (nat_eq n m)
    (λ t.
    let s : n ≡ m = eqb-true _ _ t in
    let q : Some I.header ≡ Some (A.0).header = sym I.found ∙ (ap (λ (j : ℕ). find_header j w.headers) s ∙ (A.0).found) in
    let same : I.header ≡ (A.0).header = cc in
    absurd (o (one_link x recent p w W k l n I.header e d I.found (subst (λ (z : HeaderRecord). is_for (output_at x.cast k) z.state ≡ true) (sym same) ((A.0).whole).for_link) (I.whole).for_link)))
    (λ t. rw t (not_among x recent p w W l k n d e o I ns A.1))

-- nor is one that isn't there yet
pub not_there : (x : Cast) (k n : ℕ) (hs : List HeaderRecord) → find_header n hs ≡ None → (ns : List ℕ) → AreOf x k hs ns → is_in n ns ≡ false
not_there x k n hs none [] A = refl
not_there x k n hs none (m ∷ ns) A = either (nat_eq n m)
    (λ t.
    let z : None ≡ Some (A.0).header = sym none ∙ (ap (λ (j : ℕ). find_header j hs) (eqb-true _ _ t) ∙ (A.0).found) in
    absurd cc)
    (λ t. rw t (not_there x k n hs none ns A.1))
