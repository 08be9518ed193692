-- The bytes on their way after a step of a component of a play: each of its inputs lost those of the step, each of its
-- outputs got what its part made of them.
use Rattle.std.proofs.Common.{◌≡◌, ◌≢◌, ℕ, ◌*◌, ◌/◌, ◌<◌, ◌≤◌, Bool, true, false, nat_le, if◌then◌else◌, List, [], ◌∷◌, ◌++◌, length, drop, Option, Some, option_map, refl, sym, ◌∙◌, ap, subst, leb-false, arith}
use Rattle.std.proofs.Math.Nat.{mul-le-mul_right, zero-mul}
use Rattle.part_api.specs.Streams.{Incoming}
use Rattle.part_api.specs.Terms.{Terms}
use Rattle.il_machine.specs.World.{Component, HeaderRecord, Picked, Stream, Work, World, number_of, stream_of}
use Rattle.il_machine.specs.Headers.{load_at, load_of, put, loaded}
use Rattle.il_machine.specs.Claims.{CarriedHeader, carried, terms_in}
use Rattle.il_machine.specs.Stepping.{WorkDone, bytes_at, inputs_ended, incoming, is_over, made_at, stepped, step_frames, Gives}
use Rattle.il_machine.specs.Finishing.{is_returning, stepped_back, with_landed}
use Rattle.machine_laws.proofs.Finding.{either}
use Rattle.play_model.specs.Network.{Filled, IsInput, IsOutput}
use Rattle.play_model.specs.Content.{frames_taken, front_taken}
use Rattle.play_model.specs.Play.{Play}
use Rattle.play_world_laws.specs.View.{filled_by, worked_at}
use Rattle.play_world_laws.specs.Cast.{links_of, script_place, taker_of, giver_of, output_at, input_at}
use Rattle.play_world_laws.specs.Wiring.{work_in}
use Rattle.play_world_laws.specs.Worlds.{IsWork}
use Rattle.play_world_laws.proofs.Folds.{all_made}
use Rattle.play_world_laws.proofs.Landings.{Landed, put_one, spot_by}
use Rattle.play_world_laws.proofs.Picks.{picked_none, works_here, works_else, IsPick, key_is_end}
use Rattle.play_world_laws.proofs.Wanted.{end_at, end_place, IsLinkAt}
use Rattle.play_world_laws.proofs.Worked.{IsHeaderOf, seen_as}
use Rattle.play_stream_laws.specs.Flowing.{bytes_on, content_of, flowing_in}
use Rattle.play_stream_laws.proofs.BytesLand.{in_bytes as input_bytes, off_bytes, out_bytes as output_bytes, ports_apart}
use Rattle.play_stream_laws.proofs.Coming.{closed_pick}
use Rattle.play_stream_laws.proofs.Putting.{put_sent, put_spent, put_held}
use Rattle.play_world_laws.specs.PlayWorlds.{IsPlayWorld, PlayCast}
use Rattle.play_step_laws.proofs.Claimable.{own_works}
use Rattle.play_step_laws.proofs.Landings.{done, finished_in, load_kept}
use Rattle.play_step_laws.proofs.Outgoing.{stays_put, finished_out, load_out}
use Rattle.play_step_laws.proofs.Picks.{link_pick, pick_link}
use Rattle.play_step_laws.proofs.Poised.{IsPoised}
use Rattle.play_step_laws.proofs.HeadersLand.{AllLand, IsStill, not_drained, out_at, still_is}
use Rattle.play_step_laws.proofs.Steps.{all_land, hs as landed_headers, land as landed_as, landed_is, ls as landed_list}
use Rattle.play_step_laws.proofs.Worked.{before_end, header_of, front_held, unit_at}

module _ (x : PlayCast) (recent : ℕ) (p : Play) (w : World) (W : IsPlayWorld x recent p w) (c : ℕ) (a : Component) (U : IsPoised x.cast p w c a) (work : Work) (f : a.work ≡ Some work) (J : IsWork x.cast p c a work)
    (s : Stream) (g : stream_of (number_of a) w ≡ Some s) (piece : List ℕ) (G : Gives (terms_in a work) s (step_frames (terms_in a work) s (carried w.headers work.headers)) piece) (m : ℕ) (text : List ℕ) where
  abbrev i : ℕ
  i = script_place x.cast c

  abbrev t : Terms
  t = terms_in a work

  abbrev xs : List Picked
  xs = work.headers

  abbrev zs : List CarriedHeader
  zs = carried w.headers xs

  abbrev n : ℕ
  n = step_frames t s zs

  abbrev ends : Bool
  ends = is_over t s n (inputs_ended t n zs)

  abbrev came : Incoming
  came = incoming t n zs piece

  abbrev step : CarriedHeader → CarriedHeader
  step z = stepped t n came ends z

  abbrev its : WorkDone
  its = done x.cast p w c a U work f J s g piece G m text

  abbrev ls : List Landed
  ls = landed_list x.cast p w c a U work f J s g piece G m text

  abbrev hs : List HeaderRecord
  hs = landed_headers x.cast p w c a U work f J s g piece G m text

  abbrev land : Picked → HeaderRecord → Landed
  land = landed_as x.cast p w c a U work f J s g piece G m text

  abbrev lands : AllLand x.cast p w c a work land ls
  lands = all_land x.cast p w c a U work f J s g piece G m text

  abbrev at_last : hs ≡ all_made (put_one i) ls w.headers
  at_last = landed_is x.cast p w c a U work f J s g piece G m text

  -- ---- the link of an output

  out_bytes : (k : ℕ) (d : k < links_of x.cast) (j : ℕ) (y : Picked) (r : HeaderRecord) → IsPick x.cast p c xs j y k false → IsHeaderOf x.cast w c (number_of a) y k r
      → bytes_on (output_at x.cast k) (input_at x.cast k) (work_in w.components (input_at x.cast k)) hs ≡ flowing_in x.cast w k ++ made_at t came y.port
  out_bytes k d j y r P H =
      let ds : List ℕ = work_in w.components (input_at x.cast k) in
      let z : Landed = land y r in
      let key = key_is_end x.cast p U.cast c xs j k y false P in
      let fin = finished_out x.cast p w c a U work f J s g piece G m text j k y r P H in
      let load = load_out x.cast p w c a U work f J s g piece G m text j k y r P H in
      output_bytes x recent p w W c a U work f J land ls lands hs at_last (λ (q : List ℕ). q ++ made_at t came y.port) k d j y r P H (λ ks R.
      (λ τ. bytes_on (output_at x.cast k) (input_at x.cast k) ds (put (key τ) (spot_by (fin τ)) z.number (loaded (load τ)) ks))
      ∙ put_sent (number_of a) z.number _ ks R.2 (out_at x.cast p w c a U work f J land ls lands k y r ks H R) (output_at x.cast k) (input_at x.cast k) (ports_apart x recent p w W c a U work f J land ls lands k d) ds (not_drained x.cast p w c a U work f J land ls lands k d j y r P H))

  -- ---- the link of an input

  -- the bytes of the frames that the step takes of a header
  abbrev taken_of : ℕ → HeaderRecord → ℕ
  taken_of k r = front_taken n (filled_by ((x.cast).unit k) r.load ∷ []) * (x.cast).unit k

  taken_few : (k : ℕ) (r : HeaderRecord) → length r.load.content / (x.cast).unit k * (x.cast).unit k ≡ length r.load.content → taken_of k r ≤ length r.load.content
  taken_few k r h =
      let q : ℕ = length r.load.content / (x.cast).unit k in
      either (nat_le q n)
      (λ o. subst (λ (z : Bool). (if z then q else n) * (x.cast).unit k ≤ length r.load.content) (sym o) (omega arith))
      (λ o.
      let low = leb-false q n o in
      let l : n * (x.cast).unit k ≤ q * (x.cast).unit k = mul-le-mul_right ((x.cast).unit k) (let v : n ≤ q = omega arith in v) in
      subst (λ (z : Bool). (if z then q else n) * (x.cast).unit k ≤ length r.load.content) (sym o) (omega arith))

  in_bytes : (k : ℕ) (d : k < links_of x.cast) (j : ℕ) (y : Picked) (r : HeaderRecord) → IsPick x.cast p c xs j y k true → IsHeaderOf x.cast w c (number_of a) y k r
      → bytes_on (output_at x.cast k) (input_at x.cast k) [] hs ≡ drop (taken_of k r) (flowing_in x.cast w k)
  in_bytes k d j y r P H = input_bytes x recent p w W c a U work f J land ls lands hs at_last (drop (taken_of k r)) k d j y r P H (land_in (nat_le (filled_by ((x.cast).unit k) r.load).frames n) k d j y r P H refl)
    where
      land_in : (q : Bool) (k : ℕ) (d : k < links_of x.cast) (j : ℕ) (y : Picked) (r : HeaderRecord) → IsPick x.cast p c xs j y k true → IsHeaderOf x.cast w c (number_of a) y k r → nat_le (filled_by ((x.cast).unit k) r.load).frames n ≡ q → (ks : List HeaderRecord) → IsStill w (land y r) ks
          → bytes_on (output_at x.cast k) (input_at x.cast k) [] (put_one i (land y r) ks) ≡ drop (taken_of k r) (bytes_on (output_at x.cast k) (input_at x.cast k) ((land y r).number ∷ []) ks)
      land_in true k d j y r P H o ks R =
          let z : Landed = land y r in
          let key = key_is_end x.cast p U.cast c xs j k y true P in
          let fin = finished_in x.cast p w c a U work f J s g piece G m text j k y r P H ∙ o in
          let content : content_of (load_at z.number ks) ≡ r.load.content = ap (λ (q : Option HeaderRecord). content_of (option_map load_of q)) (still_is x.cast p w c a U work f J land ls lands k y r ks H R) in
          let all : taken_of k r ≡ length (content_of (load_at z.number ks)) =
          ap (λ (q : Bool). (if q then length r.load.content / (x.cast).unit k else n) * (x.cast).unit k) o ∙ ((H.whole).frames ∙ sym (ap length content)) in
          (λ τ. bytes_on (output_at x.cast k) (input_at x.cast k) [] (put (key τ) (spot_by (fin τ)) z.number (loaded z.load) ks))
          ∙ put_spent (number_of a) z.number z.load ks R.2 (out_at x.cast p w c a U work f J land ls lands k y r ks H R) (output_at x.cast k) (input_at x.cast k) (ports_apart x recent p w W c a U work f J land ls lands k d) (taken_of k r) all
      land_in false k d j y r P H o ks R =
          let z : Landed = land y r in
          let key = key_is_end x.cast p U.cast c xs j k y true P in
          let fin = finished_in x.cast p w c a U work f J s g piece G m text j k y r P H ∙ o in
          let back : is_returning a (step (seen_as y r)) ≡ false = stays_put x.cast p w c a U work f J j k y true P in
          let load = load_kept x.cast p w c a U work f J s g piece G m text j k y r P H back o in
          let content : content_of (load_at z.number ks) ≡ r.load.content = ap (λ (q : Option HeaderRecord). content_of (option_map load_of q)) (still_is x.cast p w c a U work f J land ls lands k y r ks H R) in
          let few : taken_of k r ≤ length (content_of (load_at z.number ks)) = subst (λ (q : List ℕ). taken_of k r ≤ length q) (sym content) (taken_few k r (H.whole).frames) in
          let bytes : bytes_at t y.port n ≡ taken_of k r = ap (λ (u : ℕ). n * u) (unit_at x.cast p w c a U work f J j k y true P) ∙ sym (ap (λ (q : Bool). (if q then length r.load.content / (x.cast).unit k else n) * (x.cast).unit k) o) in
          (λ τ. bytes_on (output_at x.cast k) (input_at x.cast k) [] (put (key τ) (spot_by (fin τ)) z.number (loaded (load τ)) ks))
          ∙ put_held (number_of a) z.number _ ks R.2 (out_at x.cast p w c a U work f J land ls lands k y r ks H R) (output_at x.cast k) (input_at x.cast k) (ports_apart x recent p w W c a U work f J land ls lands k d) (taken_of k r) few ((λ τ. drop (bytes τ) r.load.content) ∙ ap (drop (taken_of k r)) (sym content))

  -- ---- each link after the step

  abbrev v : World
  v = with_landed i a its s w

  abbrev back : Component
  back = stepped_back a s its

  pub flow_in : (k : ℕ) → IsInput ((x.cast).layout).network c k → flowing_in x.cast v k ≡ drop (frames_taken n ((p.flow).link k) * (x.cast).unit k) (flowing_in x.cast w k)
  flow_in k I =
      let d : k < links_of x.cast = I.below in
      let B = before_end x.cast p w c a U work f J in
      let now : work_in v.components (input_at x.cast k) ≡ [] = works_here w.components i a back U.there (input_at x.cast k) (end_place true x.cast c k I) in
      let V : List ℕ → List ℕ = λ ds. bytes_on (output_at x.cast k) (input_at x.cast k) ds hs in
      either ((p.flow).link k).closed
      (λ o.
      let none : frames_taken n ((p.flow).link k) * (x.cast).unit k ≡ 0 = ap (λ (z : Bool). (if z then 0 else front_taken n ((p.flow).link k).held) * (x.cast).unit k) o ∙ zero-mul ((x.cast).unit k) in
      let was : work_in w.components (input_at x.cast k) ≡ [] =
      own_works x.cast p w c a U (input_at x.cast k) (end_place true x.cast c k I) ∙ (ap (λ (q : Option Work). worked_at q ((x.cast).input_port k)) f ∙ picked_none ((x.cast).input_port k) xs (λ j y h q.
      let P = pick_link x.cast p w c a U B xs J.ports j y h in
      closed_pick x.cast p U.cast c xs k I o j P.0 y P.1 P.2 q)) in
      ap V (now ∙ sym was) ∙ (off_bytes x recent p w W c a U work f J land ls lands hs at_last k d (λ j l y input P same. closed_pick x.cast p U.cast c xs k I o j l y input P (P.port ∙ port_of_link l k input I P same)) ∙ sym (ap (λ (z : ℕ). drop z (flowing_in x.cast w k)) none)))
      (λ o.
      let r = link_pick x.cast p w c a U B xs J.ports true k I o in
      let H = header_of x.cast p w c a U work f J r.0 k r.1 true r.2 in
      let held = front_held x.cast p w c a U work f J r.0 k r.1 H.0 r.2 (H.1).found in
      let some : frames_taken n ((p.flow).link k) * (x.cast).unit k ≡ taken_of k H.0 = ap (λ (z : Bool). (if z then 0 else front_taken n ((p.flow).link k).held) * (x.cast).unit k) o ∙ ap (λ (q : List Filled). front_taken n q * (x.cast).unit k) held in
      ap V now ∙ (in_bytes k d r.0 r.1 H.0 r.2 H.1 ∙ sym (ap (λ (z : ℕ). drop z (flowing_in x.cast w k)) some)))
    where
      port_of_link : (l k : ℕ) (input : Bool) → IsInput ((x.cast).layout).network c k → {j : ℕ} {y : Picked} → IsPick x.cast p c xs j y l input → k ≡ l → (end_at input x.cast l).port ≡ (x.cast).input_port k
      port_of_link l k true I P same = ap (λ (z : ℕ). (x.cast).input_port z) (sym same)
      port_of_link l k false I P same =
          let order = (((W.cast_is).layout).network).order k I.below in
          let g : giver_of x.cast k ≡ c = ap (giver_of x.cast) same ∙ (P.of_link).given_by in
          let h = I.taken_by in
          absurd (omega arith)

  other_place : (k : ℕ) → k < links_of x.cast → taker_of x.cast k ≢ c → work_in v.components (input_at x.cast k) ≡ work_in w.components (input_at x.cast k)
  other_place k d o = works_else w.components i a back U.there (input_at x.cast k) (λ q. o ((U.cast).apart (taker_of x.cast k) c ((((W.cast_is).layout).network).inside k d) U.below q))

  pub flow_out : (k : ℕ) → taker_of x.cast k ≢ c → IsOutput ((x.cast).layout).network c k → flowing_in x.cast v k ≡ flowing_in x.cast w k ++ made_at t came ((x.cast).output_port k)
  flow_out k o O =
      let r = link_pick x.cast p w c a U (before_end x.cast p w c a U work f J) xs J.ports false k O refl in
      let H = header_of x.cast p w c a U work f J r.0 k r.1 false r.2 in
      ap (λ (ds : List ℕ). bytes_on (output_at x.cast k) (input_at x.cast k) ds hs) (other_place k O.below o)
      ∙ (out_bytes k O.below r.0 r.1 H.0 r.2 H.1 ∙ ap (λ (z : ℕ). flowing_in x.cast w k ++ made_at t came z) (r.2).port)

  pub flow_off : (k : ℕ) → k < links_of x.cast → taker_of x.cast k ≢ c → giver_of x.cast k ≢ c → flowing_in x.cast v k ≡ flowing_in x.cast w k
  flow_off k d o q =
      ap (λ (ds : List ℕ). bytes_on (output_at x.cast k) (input_at x.cast k) ds hs) (other_place k d o)
      ∙ off_bytes x recent p w W c a U work f J land ls lands hs at_last k d (λ j l y input P same. off_by input l k o q (P.of_link) same)
    where
      off_by : (input : Bool) (l k : ℕ) → taker_of x.cast k ≢ c → giver_of x.cast k ≢ c → IsLinkAt input ((x.cast).layout).network c l → k ≢ l
      off_by true l k o q I same = o (ap (taker_of x.cast) same ∙ I.taken_by)
      off_by false l k o q I same = q (ap (giver_of x.cast) same ∙ I.given_by)
