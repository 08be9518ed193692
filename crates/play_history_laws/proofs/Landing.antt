-- The headers of a work whose step failed: each goes back to the front of its port's todo, and for the links nothing has changed.
use Rattle.std.proofs.Common.{◌≡◌, inl, inr, ℕ, ◌*◌, ◌/◌, ◌<◌, Bool, true, false, ◌&&◌, ◌||◌, if◌then◌else◌, List, [], ◌∷◌, ◌++◌, length, map, set, slice_get, Some, None, option_map, refl, sym, ◌∙◌, ap, subst}
use Rattle.std.proofs.Math.Nat.{zero-div, zero-mul}
use Rattle.std.proofs.lemmas.Option.{slice_get-map}
use Rattle.omx_types.specs.declared.command.Event.TheVariants as events
use Rattle.omx_types.specs.declared.command.Note.TheVariants.{Told}
use Rattle.omx_types.specs.declared.fault.PartFault.{PartFault}
use Rattle.part_api.specs.Terms.{Terms}
use Rattle.il_machine.specs.declared.header.Spot.TheVariants as spots
use Rattle.il_machine.specs.declared.port.PortKey.{PortKey}
use Rattle.il_machine.specs.Lists.{holds_at}
use Rattle.il_machine.specs.World.{Component, HeaderRecord, Load, Picked, Stream, Work, World, number_of, port_of, stream_of}
use Rattle.il_machine.specs.Headers.{find_header, is_for, load_at, load_of, put, loaded, unloaded, seen}
use Rattle.il_machine.specs.Ports.{is_joined, returning}
use Rattle.il_machine.specs.Claims.{CarriedHeader, carried, terms_in}
use Rattle.il_machine.specs.Stepping.{WorkDone}
use Rattle.il_machine.specs.Finishing.{all_landed, end_note, error_of, fault_note, is_an_input, is_returning, notes_after, tells_end}
use Rattle.il_machine.specs.Kinds.{is_sink}
use Rattle.machine_laws.proofs.Finding.{found_number}
use Rattle.play_model.specs.Play.{Play}
use Rattle.play_world_laws.specs.View.{filled, filled_by, filled_of, link_view}
use Rattle.play_world_laws.proofs.Works.{land_held, land_ready}
use Rattle.play_world_laws.specs.Cast.{Cast, links_of, script_place, output_at, input_at}
use Rattle.play_world_laws.specs.Wiring.{work_in, ends_of}
use Rattle.play_world_laws.specs.Worlds.{HasLink, IsWork}
use Rattle.play_world_laws.proofs.Folds.{all_made}
use Rattle.play_world_laws.proofs.Landings.{Landed, put_one, as_landed, all_put}
use Rattle.play_world_laws.proofs.Picks.{ends_with, seen_with, IsPick, key_is_end}
use Rattle.play_world_laws.proofs.Steps.{map_from}
use Rattle.play_world_laws.proofs.Wanted.{end_place}
use Rattle.play_world_laws.proofs.Worked.{IsHeaderOf, seen_as}
use Rattle.play_history_laws.specs.Undone.{let_go}
use Rattle.play_step_laws.proofs.HeadersLand.{AllLand, after_off, after_other, after_own, in_lands, landed_links, landed_states, not_drained, out_at, out_lands, ports_apart, still_is, view_off}
use Rattle.play_step_laws.proofs.Outgoing.{stays_put, tunnelled}
use Rattle.play_step_laws.proofs.Told.{quiet_headers}
use Rattle.play_step_laws.proofs.Numbers.{its_place, side_is, taken_at}
use Rattle.play_step_laws.proofs.Picks.{link_picked}
use Rattle.play_step_laws.proofs.Poised.{IsPoised}
use Rattle.play_step_laws.proofs.Worked.{before_end, header_of, own_picked}

none_ends : (q r : Bool) → (q && false && r) ≡ false
none_ends true r = refl
none_ends false r = refl

module _ (x : Cast) (p : Play) (w : World) (c : ℕ) (a : Component) (U : IsPoised x p w c a) (work : Work) (f : a.work ≡ Some work) (J : IsWork x p c a work)
    (s : Stream) (g : stream_of (number_of a) w ≡ Some s) (fault : PartFault) (m : ℕ) (text : List ℕ) where
  abbrev i : ℕ
  i = script_place x c

  abbrev t : Terms
  t = terms_in a work

  abbrev xs : List Picked
  xs = work.headers

  abbrev zs : List CarriedHeader
  zs = carried w.headers xs

  -- what comes back
  abbrev pub its : WorkDone
  its = record { component = m; frames = 0; fault = Some fault; headers = zs; took = text }

  abbrev pub ls : List Landed
  ls = map (as_landed a s its) zs

  abbrev pub hs : List HeaderRecord
  hs = all_landed a s its zs w.headers

  abbrev pub land : Picked → HeaderRecord → Landed
  land y r = as_landed a s its (seen_as y r)

  -- ---- the headers that land

  pub all_land : AllLand x p w c a work land ls
  all_land = record {
    each = λ j u h.
        let y = map_from (as_landed a s its) zs j u h in
        let T = taken_at x p w c a U work f J s g j y.0 y.1 in
        record { link = T.link; input = T.input; pick = T.pick; header = T.header; picked = T.picked; of_link = T.of_link; is = y.2 ∙ ap (as_landed a s its) T.is };
    at = λ j l y input r P H. slice_get-map (as_landed a s its) zs j ∙ ap (option_map (as_landed a s its)) (its_place x p w c a U work f J s g j l y input r P H.found);
    number = λ y r h. found_number y.number w.headers r h;
    port = λ y r. refl;
  }

  port_at_pick : (j : ℕ) (z : CarriedHeader) → slice_get zs j ≡ Some z → (holds_at (port_of a z.port) is_joined ≡ true) × (holds_at (port_of a z.port) (returning a) ≡ false)
  port_at_pick j z h =
      let T = taken_at x p w c a U work f J s g j z h in
      let port : z.port ≡ (T.pick).port = ap (λ (k : CarriedHeader). k.port) T.is in (
        ap (λ (k : ℕ). holds_at (port_of a k) is_joined) port ∙ tunnelled x p w c a U work f J j T.link T.pick T.input T.picked,
        ap (λ (k : ℕ). holds_at (port_of a k) (returning a)) port ∙ stays_put x p w c a U work f J j T.link T.pick T.input T.picked,
      )

  pub landed_is : hs ≡ all_made (put_one i) ls w.headers
  landed_is = all_put a s its zs w.headers port_at_pick ∙ ap (λ (k : ℕ). all_made (put_one k) ls w.headers) U.number

  -- it tells the fault, and nothing else
  pub tells : notes_after a s its ≡ Told (events.Error (error_of fault)) ∷ []
  tells =
      let none = quiet_headers a s its zs (λ j z h.
      let T = taken_at x p w c a U work f J s g j z h in
      let q = port_at_pick j z h in
      (ap (λ (k : CarriedHeader). k.header.mark) T.is ∙ ((T.of_link).whole).unmarked, q.0, q.1)) in
      let ends : tells_end a its ≡ false = none_ends (is_sink a.settings.kind) _ in
      λ k. (none k ++ end_note (ends k)) ++ fault_note (Some fault)

  -- ---- what each carries then: an output's header nothing, an input's what it had

  pub load_out : (j l : ℕ) (y : Picked) (r : HeaderRecord) → IsPick x p c xs j y l false → (land y r).load ≡ unloaded r.load
  load_out j l y r P =
      let back : is_returning a (seen_as y r) ≡ false = stays_put x p w c a U work f J j l y false P in
      let side : is_an_input a (seen_as y r) ≡ false = side_is x p w c a U work f J s g j l y false r P in
      λ k. if (back k || (if side k then false else true)) then unloaded r.load else r.load

  pub load_in_ : (j l : ℕ) (y : Picked) (r : HeaderRecord) → IsPick x p c xs j y l true → (land y r).load ≡ r.load
  load_in_ j l y r P =
      let back : is_returning a (seen_as y r) ≡ false = stays_put x p w c a U work f J j l y true P in
      let side : is_an_input a (seen_as y r) ≡ true = side_is x p w c a U work f J s g j l y true r P in
      λ k. if (back k || (if side k then false else true)) then unloaded r.load else r.load

  -- ---- the links

  -- the link of an output: its header comes back as it was
  view_out : (k : ℕ) (d : k < links_of x) (j : ℕ) (y : Picked) (r : HeaderRecord) → IsPick x p c xs j y k false → IsHeaderOf x w c (number_of a) y k r
      → link_view (ends_with x p k [] (work_in w.components (input_at x k))) hs ≡ link_view (ends_with x p k ((land y r).number ∷ []) (work_in w.components (input_at x k))) w.headers
  view_out k d j y r P H =
      let g2 : List ℕ = work_in w.components (input_at x k) in
      let z : Landed = land y r in
      let one : List ℕ = z.number ∷ [] in
      let key = key_is_end x p U.cast c xs j k y false P in
      out_lands x p w c a U work f J land ls all_land hs landed_is (λ v. v) k d j y r P H (λ ks R.
      (λ τ. link_view (ends_with x p k [] g2) (put (key τ) spots.TodoFront z.number (loaded z.load) ks))
      ∙ land_ready (number_of a) (ends_with x p k one g2) ks z.number z.load R.2 (out_at x p w c a U work f J land ls all_land k y r ks H R) (ports_apart x p w c a U work f J land ls all_land k d) (not_drained x p w c a U work f J land ls all_land k d j y r P H) refl)

  -- the link of an input: its header comes back with what it had
  view_in : (k : ℕ) (b2 : k < links_of x) (j : ℕ) (y : Picked) (r : HeaderRecord) → IsPick x p c xs j y k true → IsHeaderOf x w c (number_of a) y k r
      → link_view (ends_with x p k (work_in w.components (output_at x k)) []) hs ≡ link_view (ends_with x p k (work_in w.components (output_at x k)) ((land y r).number ∷ [])) w.headers
  view_in k b2 j y r P H =
      let g2 : List ℕ = work_in w.components (output_at x k) in
      let z : Landed = land y r in
      let one : List ℕ = z.number ∷ [] in
      let key = key_is_end x p U.cast c xs j k y true P in
      let load = load_in_ j k y r P in
      in_lands x p w c a U work f J land ls all_land hs landed_is (λ v. v) k b2 j y r P H (λ ks R.
      let its_load : load_at z.number ks ≡ Some z.load = ap (option_map load_of) (still_is x p w c a U work f J land ls all_land k y r ks H R) ∙ ap (λ (l : Load). Some l) (sym load) in
      let front : filled (x.unit k) ks z.number ≡ filled_by (x.unit k) z.load = ap (filled_of (x.unit k)) its_load in
      (λ τ. link_view (ends_with x p k g2 []) (put (key τ) spots.TodoFront z.number (loaded z.load) ks))
      ∙ (land_held (number_of a) (ends_with x p k g2 one) ks z.number z.load R.2 (out_at x p w c a U work f J land ls all_land k y r ks H R) (ports_apart x p w c a U work f J land ls all_land k b2) refl
      ∙ (λ τ. record (link_view (ends_with x p k g2 one) ks) { held = sym front τ ∷ map (filled (x.unit k) ks) ((seen ks).todo (input_at x k)) })))

  -- what lands has no mark, and whole frames
  good_load : (input : Bool) (j l : ℕ) (y : Picked) (r : HeaderRecord) → IsPick x p c xs j y l input → IsHeaderOf x w c (number_of a) y l r
      → ((land y r).load.mark ≡ None) × (length (land y r).load.content / x.unit l * x.unit l ≡ length (land y r).load.content)
  good_load false j l y r P H =
      let load = load_out j l y r P in
      (ap (λ (k : Load). k.mark) load, subst (λ (k : Load). length k.content / x.unit l * x.unit l ≡ length k.content) (sym load) (ap (λ (k : ℕ). k * x.unit l) (zero-div (x.unit l)) ∙ zero-mul (x.unit l)))
  good_load true j l y r P H =
      let load = load_in_ j l y r P in
      (ap (λ (k : Load). k.mark) load ∙ (H.whole).unmarked, subst (λ (k : Load). length k.content / x.unit l * x.unit l ≡ length k.content) (sym load) (H.whole).frames)

  pub links_land : (k : ℕ) (r : HeaderRecord) → find_header k hs ≡ Some r → HasLink x r
  links_land = landed_links x p w c a U work f J land ls all_land hs landed_is good_load

  -- each header then is for the ports that it was for
  pub states_land : (k : ℕ) (r : HeaderRecord) → find_header k hs ≡ Some r → (q : HeaderRecord) × (find_header k w.headers ≡ Some q) × ((at : PortKey) → is_for at r.state ≡ is_for at q.state)
  states_land = landed_states x p w c a U work f J land ls all_land hs landed_is

  -- ---- the links after it

  abbrev pub after : PortKey → List ℕ
  after = work_in (set w.components i (let_go a))

  viewed_picked : (input : Bool) (k : ℕ) (d : k < links_of x) (j : ℕ) (y : Picked) → IsPick x p c xs j y k input → (p.flow).link k ≡ link_view (ends_of x after p k) hs
  viewed_picked false k d j y P =
      let H = header_of x p w c a U work f J j k y false P in
      let g2 : List ℕ = work_in w.components (input_at x k) in
      let own = own_picked x p w c a U work f J j k y false P ∙ ap (λ (z : ℕ). z ∷ []) (sym (all_land.number y H.0 (H.1).found)) in
      let now = seen_with x after p k hs [] g2 (after_own x p w c a U work f J land ls all_land (let_go a) refl false k P.of_link) (after_other x p w c a U work f J land ls all_land (let_go a) refl false true k (U.apart k d) (end_place false x c k P.of_link)) in
      let was = seen_with x (work_in w.components) p k w.headers ((land y H.0).number ∷ []) g2 own refl in
      U.viewed k d ∙ (was ∙ sym (now ∙ view_out k d j y H.0 P H.1))
  viewed_picked true k d j y P =
      let H = header_of x p w c a U work f J j k y true P in
      let g2 : List ℕ = work_in w.components (output_at x k) in
      let own = own_picked x p w c a U work f J j k y true P ∙ ap (λ (z : ℕ). z ∷ []) (sym (all_land.number y H.0 (H.1).found)) in
      let now = seen_with x after p k hs g2 [] (after_other x p w c a U work f J land ls all_land (let_go a) refl true false k (λ z. U.apart k d (sym z)) (end_place true x c k P.of_link)) (after_own x p w c a U work f J land ls all_land (let_go a) refl true k P.of_link) in
      let was = seen_with x (work_in w.components) p k w.headers g2 ((land y H.0).number ∷ []) refl own in
      U.viewed k d ∙ (was ∙ sym (now ∙ view_in k d j y H.0 P H.1))

  -- each link is as it was
  pub back_viewed : (k : ℕ) → k < links_of x → (p.flow).link k ≡ link_view (ends_of x after p k) hs
  back_viewed k d = elim (link_picked x p w c a U (before_end x p w c a U work f J) xs J.ports k d) [
    | inl r ↦ viewed_picked r.2 k d r.0 r.1 r.3
    | inr h ↦
        let o : List ℕ = work_in w.components (output_at x k) in
        let q : List ℕ = work_in w.components (input_at x k) in
        U.viewed k d ∙ sym (seen_with x after p k hs o q (after_off x p w c a U work f J land ls all_land (let_go a) refl false k d h) (after_off x p w c a U work f J land ls all_land (let_go a) refl true k d h) ∙ view_off x p w c a U work f J land ls all_land hs landed_is k d h)
  ]
