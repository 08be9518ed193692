-- The links of a play after a step of a component: what lands is the model's step.
use Rattle.std.proofs.Common.{◌≡◌, ◌≢◌, inl, inr, ℕ, ◌+◌, ◌-◌, ◌*◌, ◌/◌, ◌<◌, Bool, true, false, nat_eq, nat_le, if◌then◌else◌, List, [], ◌∷◌, ◌++◌, length, map, set, Some, None, option_map, refl, sym, ◌∙◌, ap, subst, eq-eqb, ne_eqb, arith}
use Rattle.std.proofs.lemmas.Bool.{cases_eq}
use Rattle.std.proofs.Math.Nat.{zero-div, zero-mul}
use Rattle.std.proofs.lemmas.Option.{slice_get-map}
use Rattle.part_api.specs.Streams.{Incoming}
use Rattle.part_api.specs.Terms.{Terms}
use Rattle.il_machine.specs.declared.port.PortKey.{PortKey}
use Rattle.il_machine.specs.Lists.{holds_at}
use Rattle.il_machine.specs.World.{Component, HeaderRecord, Load, Picked, Stream, Work, World, number_of, port_of, stream_of}
use Rattle.il_machine.specs.Headers.{find_header, is_for, put, loaded}
use Rattle.il_machine.specs.Ports.{is_joined, returning}
use Rattle.il_machine.specs.Claims.{CarriedHeader, carried, terms_in}
use Rattle.il_machine.specs.Stepping.{WorkDone, inputs_ended, is_over, incoming, stepped, step_frames, Gives}
use Rattle.il_machine.specs.Finishing.{is_returning, all_landed, stepped_back}
use Rattle.machine_laws.proofs.Finding.{either, found_number}
use Rattle.machine_laws.proofs.Landing.{stepped_number}
use Rattle.play_model.specs.Network.{Filled, LinkState, IsInput, IsOutput}
use Rattle.play_model.specs.Moves.{gave, took, took_front}
use Rattle.play_model.specs.Play.{Play}
use Rattle.play_model.specs.Acts.{Act, acted}
use Rattle.play_world_laws.specs.View.{filled_by, link_view}
use Rattle.play_world_laws.proofs.Same.{link_same}
use Rattle.play_world_laws.proofs.Works.{land_sent, land_spent, land_held}
use Rattle.play_world_laws.specs.Cast.{Cast, links_of, script_place, taker_of, giver_of, output_at, input_at}
use Rattle.play_world_laws.specs.Wiring.{work_in, ends_of}
use Rattle.play_world_laws.specs.Worlds.{HasLink}
use Rattle.play_world_laws.proofs.Folds.{all_made}
use Rattle.play_world_laws.proofs.Wanted.{end_place}
use Rattle.play_world_laws.proofs.Picks.{ends_with, seen_with, IsPick, key_is_end}
use Rattle.play_step_laws.proofs.Picks.{link_pick, link_picked}
use Rattle.play_world_laws.proofs.Worked.{IsHeaderOf, seen_as}
use Rattle.play_step_laws.proofs.Worked.{before_end, header_of, own_picked, front_held}
use Rattle.play_world_laws.proofs.Numbers.{took_closed}
use Rattle.play_step_laws.proofs.Numbers.{its_place, taken_at}
use Rattle.play_world_laws.proofs.Landings.{Landed, put_one, spot_by, as_landed, all_put}
use Rattle.play_step_laws.proofs.Landings.{done, finished_in, load_spent, load_kept, filled_kept, whole_kept}
use Rattle.play_step_laws.proofs.Outgoing.{tunnelled, stays_put, finished_out, load_out, filled_out, whole_out}
use Rattle.play_world_laws.proofs.Steps.{map_from}
use Rattle.play_step_laws.proofs.HeadersLand.{AllLand, IsStill, after_off, after_other, after_own, in_lands, landed_links, landed_states, not_drained, out_at, out_lands, ports_apart, view_off}
use Rattle.play_step_laws.proofs.Poised.{IsPoised}
use Rattle.play_world_laws.specs.Worlds.{IsWork}

-- all but the first
abbrev rest_of : List Filled → List Filled
rest_of [] = []
rest_of (h ∷ hs) = hs

-- what an input's header does to its link where it is spent, and where it is worked on again
abbrev spends : LinkState → LinkState
spends y = record y { held = rest_of y.held; spent = y.spent + 1 }

abbrev keeps_front : Filled → LinkState → LinkState
keeps_front h y = record y { held = h ∷ rest_of y.held }

took_spent : (n : ℕ) (y : LinkState) (h : Filled) (hs : List Filled) → y.closed ≡ false → y.held ≡ h ∷ hs → nat_le h.frames n ≡ true → took n y ≡ record (spends y) { taken = y.taken + h.frames; closed = h.last }
took_spent n y h hs o e t =
    ap (λ (q : Bool). if q then y else took_front n y.held y) o
    ∙ (ap (λ (k : List Filled). took_front n k y) e
    ∙ (ap (λ (q : Bool). if q then record y { held = hs; spent = y.spent + 1; taken = y.taken + h.frames; closed = h.last } else record y { held = record h { frames = h.frames - n } ∷ hs; taken = y.taken + n }) t
    ∙ sym (ap (λ (k : List Filled). record y { held = rest_of k; spent = y.spent + 1; taken = y.taken + h.frames; closed = h.last }) e)))

took_kept : (n : ℕ) (y : LinkState) (h : Filled) (hs : List Filled) → y.closed ≡ false → y.held ≡ h ∷ hs → nat_le h.frames n ≡ false → took n y ≡ record (keeps_front (record h { frames = h.frames - n }) y) { taken = y.taken + n }
took_kept n y h hs o e t =
    ap (λ (q : Bool). if q then y else took_front n y.held y) o
    ∙ (ap (λ (k : List Filled). took_front n k y) e
    ∙ (ap (λ (q : Bool). if q then record y { held = hs; spent = y.spent + 1; taken = y.taken + h.frames; closed = h.last } else record y { held = record h { frames = h.frames - n } ∷ hs; taken = y.taken + n }) t
    ∙ sym (ap (λ (k : List Filled). record y { held = record h { frames = h.frames - n } ∷ rest_of k; taken = y.taken + n }) e)))

module _ (x : Cast) (p : Play) (w : World) (c : ℕ) (a : Component) (U : IsPoised x p w c a) (work : Work) (f : a.work ≡ Some work) (J : IsWork x p c a work)
    (s : Stream) (g : stream_of (number_of a) w ≡ Some s) (piece : List ℕ) (G : Gives (terms_in a work) s (step_frames (terms_in a work) s (carried w.headers work.headers)) piece) (m : ℕ) (text : List ℕ) where
  abbrev i : ℕ
  i = script_place x c

  abbrev t : Terms
  t = terms_in a work

  abbrev xs : List Picked
  xs = work.headers

  abbrev zs : List CarriedHeader
  zs = carried w.headers xs

  abbrev pub n : ℕ
  n = step_frames t s zs

  abbrev pub ends : Bool
  ends = is_over t s n (inputs_ended t n zs)

  abbrev came : Incoming
  came = incoming t n zs piece

  abbrev step : CarriedHeader → CarriedHeader
  step z = stepped t n came ends z

  abbrev pub its : WorkDone
  its = done x p w c a U work f J s g piece G m text

  abbrev pub ls : List Landed
  ls = map (as_landed a s its) its.headers

  abbrev pub hs : List HeaderRecord
  hs = all_landed a s its its.headers w.headers

  abbrev pub land : Picked → HeaderRecord → Landed
  land y r = as_landed a s its (step (seen_as y r))

  -- ---- the headers that land

  pub all_land : AllLand x p w c a work land ls
  all_land = record {
    each = λ j u h.
        let y = map_from (as_landed a s its) its.headers j u h in
        let z = map_from step zs j y.0 y.1 in
        let T = taken_at x p w c a U work f J s g j z.0 z.1 in
        record { link = T.link; input = T.input; pick = T.pick; header = T.header; picked = T.picked; of_link = T.of_link; is = y.2 ∙ (ap (as_landed a s its) z.2 ∙ ap (λ (k : CarriedHeader). as_landed a s its (step k)) T.is) };
    at = λ j l y input r P H.
        let z = its_place x p w c a U work f J s g j l y input r P H.found in
        slice_get-map (as_landed a s its) its.headers j ∙ ap (option_map (as_landed a s its)) (slice_get-map step zs j ∙ ap (option_map step) z);
    number = λ y r h. stepped_number t n came ends (seen_as y r) ∙ found_number y.number w.headers r h;
    port = λ y r. refl;
  }

  pub landed_is : hs ≡ all_made (put_one i) ls w.headers
  landed_is =
      all_put a s its its.headers w.headers (λ j y h.
      let z = map_from step zs j y h in
      let T = taken_at x p w c a U work f J s g j z.0 z.1 in
      let port : y.port ≡ (T.pick).port = ap (λ (k : CarriedHeader). k.port) z.2 ∙ ap (λ (k : CarriedHeader). k.port) T.is in (
        ap (λ (k : ℕ). holds_at (port_of a k) is_joined) port ∙ tunnelled x p w c a U work f J j T.link T.pick T.input T.picked,
        ap (λ (k : ℕ). holds_at (port_of a k) (returning a)) port ∙ stays_put x p w c a U work f J j T.link T.pick T.input T.picked,
      ))
      ∙ ap (λ (k : ℕ). all_made (put_one k) ls w.headers) U.number

  -- the link of an output: its header got the frames of the step
  view_out : (k : ℕ) (d : k < links_of x) (j : ℕ) (y : Picked) (r : HeaderRecord) → IsPick x p c xs j y k false → IsHeaderOf x w c (number_of a) y k r
      → link_view (ends_with x p k [] (work_in w.components (input_at x k))) hs ≡ gave n ends (link_view (ends_with x p k ((land y r).number ∷ []) (work_in w.components (input_at x k))) w.headers)
  view_out k d j y r P H =
      let g2 : List ℕ = work_in w.components (input_at x k) in
      let z : Landed = land y r in
      let one : List ℕ = z.number ∷ [] in
      let key = key_is_end x p U.cast c xs j k y false P in
      let fin = finished_out x p w c a U work f J s g piece G m text j k y r P H in
      let load = load_out x p w c a U work f J s g piece G m text j k y r P H in
      let got = filled_out x p w c a U work f J s g piece G m text j k y r P H in
      out_lands x p w c a U work f J land ls all_land hs landed_is (gave n ends) k d j y r P H (λ ks R.
      (λ τ. link_view (ends_with x p k [] g2) (put (key τ) (spot_by (fin τ)) z.number (loaded (load τ)) ks))
      ∙ (land_sent (number_of a) (ends_with x p k one g2) ks z.number _ R.2 (out_at x p w c a U work f J land ls all_land k y r ks H R) (ports_apart x p w c a U work f J land ls all_land k d) (not_drained x p w c a U work f J land ls all_land k d j y r P H) refl
      ∙ ap (λ (h : Filled). record (link_view (ends_with x p k one g2) ks) { ready = (link_view (ends_with x p k one g2) ks).ready - 1; sent = (link_view (ends_with x p k one g2) ks).sent ++ h ∷ [] }) got))

  -- the link of an input: its header is spent, or worked on again
  view_in : (d : Bool) (k : ℕ) (b2 : k < links_of x) (j : ℕ) (y : Picked) (r : HeaderRecord) → IsPick x p c xs j y k true → IsHeaderOf x w c (number_of a) y k r → nat_le (filled_by (x.unit k) r.load).frames n ≡ d
      → link_view (ends_with x p k (work_in w.components (output_at x k)) []) hs
      ≡ (if d then spends (link_view (ends_with x p k (work_in w.components (output_at x k)) ((land y r).number ∷ [])) w.headers)
      else keeps_front (record (filled_by (x.unit k) r.load) { frames = (filled_by (x.unit k) r.load).frames - n }) (link_view (ends_with x p k (work_in w.components (output_at x k)) ((land y r).number ∷ [])) w.headers))
  view_in d k b2 j y r P H o = in_lands x p w c a U work f J land ls all_land hs landed_is (λ v. if d then spends v else keeps_front (record (filled_by (x.unit k) r.load) { frames = (filled_by (x.unit k) r.load).frames - n }) v) k b2 j y r P H (land_in d k b2 j y r P H o)
    where
      land_in : (d : Bool) (k : ℕ) (b2 : k < links_of x) (j : ℕ) (y : Picked) (r : HeaderRecord) → IsPick x p c xs j y k true → IsHeaderOf x w c (number_of a) y k r → nat_le (filled_by (x.unit k) r.load).frames n ≡ d → (ks : List HeaderRecord) → IsStill w (land y r) ks
          → link_view (ends_with x p k (work_in w.components (output_at x k)) []) (put_one i (land y r) ks)
          ≡ (if d then spends (link_view (ends_with x p k (work_in w.components (output_at x k)) ((land y r).number ∷ [])) ks)
          else keeps_front (record (filled_by (x.unit k) r.load) { frames = (filled_by (x.unit k) r.load).frames - n }) (link_view (ends_with x p k (work_in w.components (output_at x k)) ((land y r).number ∷ [])) ks))
      land_in true k b2 j y r P H o ks R =
          let g2 : List ℕ = work_in w.components (output_at x k) in
          let z : Landed = land y r in
          let key = key_is_end x p U.cast c xs j k y true P in
          let fin = finished_in x p w c a U work f J s g piece G m text j k y r P H ∙ o in
          (λ τ. link_view (ends_with x p k g2 []) (put (key τ) (spot_by (fin τ)) z.number (loaded z.load) ks))
          ∙ land_spent (number_of a) (ends_with x p k g2 (z.number ∷ [])) ks z.number z.load R.2 (out_at x p w c a U work f J land ls all_land k y r ks H R) (ports_apart x p w c a U work f J land ls all_land k b2) refl
      land_in false k b2 j y r P H o ks R =
          let g2 : List ℕ = work_in w.components (output_at x k) in
          let z : Landed = land y r in
          let key = key_is_end x p U.cast c xs j k y true P in
          let fin = finished_in x p w c a U work f J s g piece G m text j k y r P H ∙ o in
          let back : is_returning a (step (seen_as y r)) ≡ false = stays_put x p w c a U work f J j k y true P in
          let load = load_kept x p w c a U work f J s g piece G m text j k y r P H back o in
          let got = filled_kept x p w c a U work f J s g piece G m text j k y r P H in
          (λ τ. link_view (ends_with x p k g2 []) (put (key τ) (spot_by (fin τ)) z.number (loaded (load τ)) ks))
          ∙ (land_held (number_of a) (ends_with x p k g2 (z.number ∷ [])) ks z.number _ R.2 (out_at x p w c a U work f J land ls all_land k y r ks H R) (ports_apart x p w c a U work f J land ls all_land k b2) refl
          ∙ ap (λ (h : Filled). keeps_front h (link_view (ends_with x p k g2 (z.number ∷ [])) ks)) got)

  -- what lands has no mark, and whole frames
  good_load : (input : Bool) (j l : ℕ) (y : Picked) (r : HeaderRecord) → IsPick x p c xs j y l input → IsHeaderOf x w c (number_of a) y l r
      → ((land y r).load.mark ≡ None) × (length (land y r).load.content / x.unit l * x.unit l ≡ length (land y r).load.content)
  good_load false j l y r P H =
      let load = load_out x p w c a U work f J s g piece G m text j l y r P H in
      let whole = whole_out x p w c a U work f J s g piece G m text j l y r P H in
      (ap (λ (k : Load). k.mark) load, subst (λ (k : Load). length k.content / x.unit l * x.unit l ≡ length k.content) (sym load) whole)
  good_load true j l y r P H =
      let back : is_returning a (step (seen_as y r)) ≡ false = stays_put x p w c a U work f J j l y true P in
      either (nat_le (filled_by (x.unit l) r.load).frames n)
      (λ o.
      let load = load_spent x p w c a U work f J s g piece G m text j l y r P H back o in
      (ap (λ (k : Load). k.mark) load, subst (λ (k : Load). length k.content / x.unit l * x.unit l ≡ length k.content) (sym load) (ap (λ (k : ℕ). k * x.unit l) (zero-div (x.unit l)) ∙ zero-mul (x.unit l))))
      (λ o.
      let load = load_kept x p w c a U work f J s g piece G m text j l y r P H back o in
      let whole = whole_kept x p w c a U work f J s g piece G m text j l y r P H in
      (ap (λ (k : Load). k.mark) load ∙ (H.whole).unmarked, subst (λ (k : Load). length k.content / x.unit l * x.unit l ≡ length k.content) (sym load) whole))

  pub links_land : (k : ℕ) (r : HeaderRecord) → find_header k hs ≡ Some r → HasLink x r
  links_land = landed_links x p w c a U work f J land ls all_land hs landed_is good_load

  -- each header then is for the ports that it was for
  pub states_land : (k : ℕ) (r : HeaderRecord) → find_header k hs ≡ Some r → (q : HeaderRecord) × (find_header k w.headers ≡ Some q) × ((at : PortKey) → is_for at r.state ≡ is_for at q.state)
  states_land = landed_states x p w c a U work f J land ls all_land hs landed_is

  -- ---- the play after the step

  abbrev pub next : Play
  next = acted x.layout (Act.Step c n ends) p

  abbrev pub back : Component
  back = stepped_back a s its

  input_next : (k : ℕ) → IsInput (x.layout).network c k → (next.flow).link k ≡ took n ((p.flow).link k)
  input_next k I = ap (λ (z : Bool). if z then took n ((p.flow).link k) else (if nat_eq (giver_of x k) c then gave n ends ((p.flow).link k) else (p.flow).link k)) (eq-eqb (taker_of x k) c I.taken_by)

  output_next : (k : ℕ) → IsOutput (x.layout).network c k → (next.flow).link k ≡ gave n ends ((p.flow).link k)
  output_next k O =
      let order = (((U.cast).layout).network).order k O.below in
      let h = O.given_by in
      ap (λ (z : Bool). if z then took n ((p.flow).link k) else (if nat_eq (giver_of x k) c then gave n ends ((p.flow).link k) else (p.flow).link k)) (ne_eqb (taker_of x k) c (λ z. omega arith))
      ∙ ap (λ (z : Bool). if z then gave n ends ((p.flow).link k) else (p.flow).link k) (eq-eqb (giver_of x k) c h)

  other_next : (k : ℕ) → taker_of x k ≢ c → giver_of x k ≢ c → (next.flow).link k ≡ (p.flow).link k
  other_next k d o =
      ap (λ (z : Bool). if z then took n ((p.flow).link k) else (if nat_eq (giver_of x k) c then gave n ends ((p.flow).link k) else (p.flow).link k)) (ne_eqb (taker_of x k) c d)
      ∙ ap (λ (z : Bool). if z then gave n ends ((p.flow).link k) else (p.flow).link k) (ne_eqb (giver_of x k) c o)

  -- the model's change, up to what stands in no header
  pub is_same : (k : ℕ) (works : PortKey → List ℕ) (z : LinkState) (taken : ℕ) (closed : Bool) → (next.flow).link k ≡ record z { taken = taken; closed = closed } → link_view (ends_of x works p k) hs ≡ z
      → (next.flow).link k ≡ link_view (ends_of x works next k) hs
  is_same k works z taken closed o v = link_same ((next.flow).link k) (link_view (ends_of x works next k) hs)
      (ap (λ (y : LinkState). y.ready) o ∙ sym (ap (λ (y : LinkState). y.ready) v))
      (ap (λ (y : LinkState). y.sent) o ∙ sym (ap (λ (y : LinkState). y.sent) v))
      (ap (λ (y : LinkState). y.held) o ∙ sym (ap (λ (y : LinkState). y.held) v))
      (ap (λ (y : LinkState). y.spent) o ∙ sym (ap (λ (y : LinkState). y.spent) v))
      refl refl

  abbrev after : PortKey → List ℕ
  after = work_in (set w.components i back)

  viewed_picked : (input : Bool) (k : ℕ) (d : k < links_of x) (j : ℕ) (y : Picked) → IsPick x p c xs j y k input → (next.flow).link k ≡ link_view (ends_of x after next k) hs
  viewed_picked false k d j y P =
      let H = header_of x p w c a U work f J j k y false P in
      let g2 : List ℕ = work_in w.components (input_at x k) in
      let own = own_picked x p w c a U work f J j k y false P ∙ ap (λ (z : ℕ). z ∷ []) (sym (all_land.number y H.0 (H.1).found)) in
      let now = seen_with x after p k hs [] g2 (after_own x p w c a U work f J land ls all_land back refl false k P.of_link) (after_other x p w c a U work f J land ls all_land back refl false true k (U.apart k d) (end_place false x c k P.of_link)) in
      let was = seen_with x (work_in w.components) p k w.headers ((land y H.0).number ∷ []) g2 own refl in
      is_same k after (gave n ends ((p.flow).link k)) ((p.flow).link k).taken ((p.flow).link k).closed (output_next k P.of_link)
      (now ∙ (view_out k d j y H.0 P H.1 ∙ ap (gave n ends) (sym (U.viewed k d ∙ was))))
  viewed_picked true k d j y P =
      let H = header_of x p w c a U work f J j k y true P in
      let h : Filled = filled_by (x.unit k) (H.0).load in
      let g2 : List ℕ = work_in w.components (output_at x k) in
      let own = own_picked x p w c a U work f J j k y true P ∙ ap (λ (z : ℕ). z ∷ []) (sym (all_land.number y H.0 (H.1).found)) in
      let now = seen_with x after p k hs g2 [] (after_other x p w c a U work f J land ls all_land back refl true false k (λ z. U.apart k d (sym z)) (end_place true x c k P.of_link)) (after_own x p w c a U work f J land ls all_land back refl true k P.of_link) in
      let was = seen_with x (work_in w.components) p k w.headers g2 ((land y H.0).number ∷ []) refl own in
      let link = sym (U.viewed k d ∙ was) in
      let front = front_held x p w c a U work f J j k y H.0 P (H.1).found in
      either (nat_le h.frames n)
      (λ o. is_same k after (spends ((p.flow).link k)) (((p.flow).link k).taken + h.frames) h.last (input_next k P.of_link ∙ took_spent n ((p.flow).link k) h _ P.open_ front o)
      (now ∙ (view_in true k d j y H.0 P H.1 o ∙ ap spends link)))
      (λ o. is_same k after (keeps_front (record h { frames = h.frames - n }) ((p.flow).link k)) (((p.flow).link k).taken + n) ((p.flow).link k).closed (input_next k P.of_link ∙ took_kept n ((p.flow).link k) h _ P.open_ front o)
      (now ∙ (view_in false k d j y H.0 P H.1 o ∙ ap (keeps_front (record h { frames = h.frames - n })) link)))

  off_next : (k : ℕ) → k < links_of x → ((j l : ℕ) (y : Picked) (input : Bool) → IsPick x p c xs j y l input → k ≢ l) → (next.flow).link k ≡ (p.flow).link k
  off_next k d h = elim (cases_eq (taker_of x k) c) [
    | inl o ↦
        let I : IsInput (x.layout).network c k = record { below = d; taken_by = o } in
        either ((p.flow).link k).closed
        (λ z. input_next k I ∙ took_closed n ((p.flow).link k) z)
        (λ z. let r = link_pick x p w c a U (before_end x p w c a U work f J) xs J.ports true k I z in absurd (h r.0 k r.1 true r.2 refl))
    | inr o ↦ elim (cases_eq (giver_of x k) c) [
      | inl z ↦ let r = link_pick x p w c a U (before_end x p w c a U work f J) xs J.ports false k (record { below = d; given_by = z }) refl in absurd (h r.0 k r.1 false r.2 refl)
      | inr z ↦ other_next k o z
    ]
  ]

  pub step_viewed : (k : ℕ) → k < links_of x → (next.flow).link k ≡ link_view (ends_of x after next k) hs
  step_viewed k d = elim (link_picked x p w c a U (before_end x p w c a U work f J) xs J.ports k d) [
    | inl r ↦ viewed_picked r.2 k d r.0 r.1 r.3
    | inr h ↦
        let o : List ℕ = work_in w.components (output_at x k) in
        let q : List ℕ = work_in w.components (input_at x k) in
        is_same k after ((p.flow).link k) ((p.flow).link k).taken ((p.flow).link k).closed (off_next k d h)
        (seen_with x after p k hs o q (after_off x p w c a U work f J land ls all_land back refl false k d h) (after_off x p w c a U work f J land ls all_land back refl true k d h) ∙ (view_off x p w c a U work f J land ls all_land hs landed_is k d h ∙ sym (U.viewed k d)))
  ]
