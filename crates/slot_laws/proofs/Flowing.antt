-- The acts of a component on its ports, in a world whose handles moved.
use Rattle.std.proofs.Common.{◌≡◌, ℕ, ◌+◌, Bool, not, ◌&&◌, ◌||◌, List, [], ◌∷◌, ◌++◌, Option, Some, None, option_map, refl, ◌∙◌, ap}
use Rattle.std.specs.Prelude.{map, Result}
use Rattle.omx_types.specs.declared.handle.Handle.{Handle}
use Rattle.omx_types.specs.declared.error.OmxError.{OmxError}
use Rattle.omx_types.specs.declared.error.CallError.{CallError}
use Rattle.omx_types.specs.declared.error.CallError.TheVariants.{Omx}
use Rattle.il_machine.specs.declared.answer.Acted.{Acted}
use Rattle.il_machine.specs.declared.answer.Why.{Why}
use Rattle.il_machine.specs.declared.answer.Why.TheVariants as why
use Rattle.il_machine.specs.declared.header.Owner.TheVariants as owners
use Rattle.il_machine.specs.declared.header.Spot.{Spot}
use Rattle.il_machine.specs.declared.header.Spot.TheVariants.{TodoBack}
use Rattle.il_machine.specs.declared.port.Link.{Link}
use Rattle.il_machine.specs.declared.port.Port.{Port}
use Rattle.il_machine.specs.declared.port.PortKey.{PortKey}
use Rattle.il_machine.specs.Answers.{Acts, plain}
use Rattle.il_machine.specs.Buffers.{has_no_block, has_no_number, is_taking}
use Rattle.il_machine.specs.Flow.{End, OnPort, HandBack, HandOver, Release, Supply, at_end, at_link, back_idle, done_note, front_noticed, front_put, front_unmade, handed_back, handed_over, in_port, is_giving, other_end, over_idle, release_idle, returned, supplied_by, supplied_spot, supply_idle, with_supplied}
use Rattle.il_machine.specs.Headers.{Seen, cleared, given_to, seen, unchanged}
use Rattle.il_machine.specs.Lists.{first_of_these, is_empty}
use Rattle.il_machine.specs.Look.{Look, look}
use Rattle.il_machine.specs.Ports.{accepting, id_of, is_input_port, is_supplier, leaving, returning}
use Rattle.il_machine.specs.States.{is_executing}
use Rattle.il_machine.specs.World.{Component, HeaderRecord, World, noted, number_of}
use Rattle.slot_laws.specs.Seating.{Seating, mapped, moved, moved_acted, moved_component, moved_handle, moved_header, moved_port, moved_why}
use Rattle.slot_laws.proofs.Lists.{Alike, first_alike, map_append}
use Rattle.slot_laws.proofs.Headers.{changed_moved, put_moved, seen_moved, without_moved}
use Rattle.slot_laws.proofs.Closings.{component_put}
use Rattle.slot_laws.proofs.Naming.{acts_moved, by_map, moved_end, on_port_moved, other_moved}

module _ (f : Seating) where
  -- what calls see of the moved world, with the headers as they were seen
  abbrev pub shown : World → Look
  shown w = record (look (moved f w)) { headers = seen w.headers }

  -- an act on a port
  pub port_acts : {E : Type 0} (refuse : OmxError → E) (w v : World) (h : Handle) (port : ℕ) (r : Result Acted E)
      (idle other : Component → Port → Option Why) (after also : ℕ → Component → Port → World)
      → ((c : Component) (p : Port) → other (moved_component f c) (moved_port f p) ≡ option_map (moved_why f) (idle c p))
      → ((i : ℕ) (c : Component) (p : Port) → also i (moved_component f c) (moved_port f p) ≡ moved f (after i c p))
      → OnPort refuse w h port r v (λ i c p. Acts (idle c p) r w (after i c p) v)
      → OnPort refuse (moved f w) (moved_handle f h) port (mapped (moved_acted f) r) (moved f v) (λ i c p. Acts (other c p) (mapped (moved_acted f) r) (moved f w) (also i c p) (moved f v))
  port_acts refuse w v h port r idle other after also reasons goes R =
      on_port_moved f refuse (moved_acted f) w v r (mapped (moved_acted f) r) (by_map (moved_acted f) r) h port
      (λ i c p. Acts (idle c p) r w (after i c p) v)
      (λ i c p. Acts (other c p) (mapped (moved_acted f) r) (moved f w) (also i c p) (moved f v))
      (λ i c p A. acts_moved f w (after i c p) (also i (moved_component f c) (moved_port f p)) v r (mapped (moved_acted f) r) (by_map (moved_acted f) r)
      (other (moved_component f c) (moved_port f p)) (idle c p) (reasons c p) (goes i c p) A) R

  -- ---- supply

  abbrev supply_list : Look → Component → Port → Option End → List (Bool × Why)
  supply_list l c p o =
      (not (is_supplier p), why.NotSupplier)
      ∷ (not (accepting l.headers c p), why.NotAccepting (id_of c p))
      ∷ at_end o (λ e. (not (accepting l.headers e.component e.port), why.NotAccepting (id_of e.component e.port)) ∷ [])
      ++ (has_no_block l.headers, why.NoBlock)
      ∷ (has_no_number l, why.NoNumber)
      ∷ []

  supply_alike : (w : World) (c : Component) (p : Port) (o : Option End)
      → Alike (moved_why f) (supply_list (shown w) (moved_component f c) (moved_port f p) (option_map (moved_end f) o)) (supply_list (look w) c p o)
  supply_alike w c p None = (refl, refl, (refl, refl, (refl, refl, (refl, refl, tt))))
  supply_alike w c p (Some e) = (refl, refl, (refl, refl, (refl, refl, (refl, refl, (refl, refl, tt)))))

  supply_reason : (w : World) (c : Component) (p : Port) → supply_idle (look (moved f w)) (moved_component f c) (moved_port f p) ≡ option_map (moved_why f) (supply_idle (look w) c p)
  supply_reason w c p =
      (λ j. first_of_these (supply_list (record (look (moved f w)) { headers = seen_moved f w.headers j }) (moved_component f c) (moved_port f p) (other_moved f w.components p j)))
      ∙ first_alike (moved_why f) (supply_list (shown w) (moved_component f c) (moved_port f p) (option_map (moved_end f) (other_end w.components p)))
      (supply_list (look w) c p (other_end w.components p)) (supply_alike w c p (other_end w.components p))

  one_supplied : (number : ℕ) (p : Port) (o : Option Link) → supplied_by number (moved_port f p) o ≡ map (moved_header f) (supplied_by number p o)
  one_supplied number p None = refl
  one_supplied number p (Some link) = refl

  supplied_moved : (p : Port) (w : World) → with_supplied (moved_port f p) (moved f w) ≡ moved f (with_supplied p w)
  supplied_moved p w =
      let a = ap (λ (l : List HeaderRecord). map (moved_header f) w.headers ++ l) (one_supplied w.made p p.state.link) ∙ map_append (moved_header f) w.headers (supplied_by w.made p p.state.link) in
      λ j. record (moved f w) { headers = a j; made = w.made + 1 }

  pub supply_goes : (w : World) (h : Handle) (port : ℕ) (r : Result Acted CallError) (v : World)
      → Supply w h port r v → Supply (moved f w) (moved_handle f h) port (mapped (moved_acted f) r) (moved f v)
  supply_goes w h port r v R = port_acts Omx w v h port r (supply_idle (look w)) (supply_idle (look (moved f w)))
      (λ i c p. with_supplied p w) (λ i c p. with_supplied p (moved f w)) (supply_reason w) (λ i c p. supplied_moved p w) R

  -- ---- release

  abbrev release_list : Seen → Component → Port → List (Bool × Why)
  release_list headers c p =
      (not (is_supplier p), why.NotSupplier)
      ∷ (not (leaving c p), why.NotLeaving)
      ∷ (is_empty (in_port headers p), why.NoHeader)
      ∷ []

  release_reason : (w : World) (c : Component) (p : Port) → release_idle (look (moved f w)) (moved_component f c) (moved_port f p) ≡ option_map (moved_why f) (release_idle (look w) c p)
  release_reason w c p =
      (λ j. first_of_these (release_list (seen_moved f w.headers j) (moved_component f c) (moved_port f p)))
      ∙ first_alike (moved_why f) (release_list (seen w.headers) (moved_component f c) (moved_port f p)) (release_list (seen w.headers) c p) (refl, refl, (refl, refl, (refl, refl, tt)))

  unmade_moved : (ns : List ℕ) (w : World) → front_unmade ns (moved f w) ≡ moved f (front_unmade ns w)
  unmade_moved [] w = refl
  unmade_moved (n ∷ ns) w = let a = without_moved f n w.headers in λ j. record (moved f w) { headers = a j }

  pub release_goes : (w : World) (h : Handle) (port : ℕ) (r : Result Acted OmxError) (v : World)
      → Release w h port r v → Release (moved f w) (moved_handle f h) port (mapped (moved_acted f) r) (moved f v)
  release_goes w h port r v R = port_acts plain w v h port r (release_idle (look w)) (release_idle (look (moved f w)))
      (λ i c p. front_unmade (in_port (seen w.headers) p) w) (λ i c p. front_unmade (in_port (seen (moved f w).headers) p) (moved f w)) (release_reason w)
      (λ i c p. (λ j. front_unmade (in_port (seen_moved f w.headers j) p) (moved f w)) ∙ unmade_moved (in_port (seen w.headers) p) w) R

  -- ---- hand_over

  abbrev over_list : Seen → Component → Port → Option End → List (Bool × Why)
  over_list headers c p o =
      (not (is_supplier p), why.NotSupplier)
      ∷ (not (is_giving c p), why.NotRunning (id_of c p))
      ∷ at_end o (λ e. (not (is_taking e.component e.port), why.NotRunning (id_of e.component e.port)) ∷ [])
      ++ (is_empty (headers.done p.key), why.NoHeader)
      ∷ []

  over_alike : (headers : Seen) (c : Component) (p : Port) (o : Option End)
      → Alike (moved_why f) (over_list headers (moved_component f c) (moved_port f p) (option_map (moved_end f) o)) (over_list headers c p o)
  over_alike headers c p None = (refl, refl, (refl, refl, (refl, refl, tt)))
  over_alike headers c p (Some e) = (refl, refl, (refl, refl, (refl, refl, (refl, refl, tt))))

  over_reason : (w : World) (c : Component) (p : Port) → over_idle (look (moved f w)) (moved_component f c) (moved_port f p) ≡ option_map (moved_why f) (over_idle (look w) c p)
  over_reason w c p =
      (λ j. first_of_these (over_list (seen_moved f w.headers j) (moved_component f c) (moved_port f p) (other_moved f w.components p j)))
      ∙ first_alike (moved_why f) (over_list (seen w.headers) (moved_component f c) (moved_port f p) (option_map (moved_end f) (other_end w.components p)))
      (over_list (seen w.headers) c p (other_end w.components p)) (over_alike (seen w.headers) c p (other_end w.components p))

  front_put_moved : (key : PortKey) (spot : Spot) (g : HeaderRecord → HeaderRecord) (ns : List ℕ) (w : World) → ((r : HeaderRecord) → g (moved_header f r) ≡ moved_header f (g r))
      → front_put key spot g ns (moved f w) ≡ moved f (front_put key spot g ns w)
  front_put_moved key spot g [] w same = refl
  front_put_moved key spot g (n ∷ ns) w same = let a = put_moved f key spot n g g w.headers same in λ j. record (moved f w) { headers = a j }

  link_moved : (o : Option Link) (p : Port) (w : World)
      → at_link o (λ peer. front_put peer TodoBack unchanged ((seen w.headers).done p.key)) (moved f w) ≡ moved f (at_link o (λ peer. front_put peer TodoBack unchanged ((seen w.headers).done p.key)) w)
  link_moved None p w = refl
  link_moved (Some link) p w = front_put_moved link.peer TodoBack unchanged ((seen w.headers).done p.key) w (λ r. refl)

  over_moved : (p : Port) (w : World) → handed_over (moved_port f p) (moved f w) ≡ moved f (handed_over p w)
  over_moved p w =
      (λ j. at_link p.state.link (λ peer. front_put peer TodoBack unchanged ((seen_moved f w.headers j).done p.key)) (moved f w)) ∙ link_moved p.state.link p w

  pub over_goes : (w : World) (h : Handle) (port : ℕ) (r : Result Acted OmxError) (v : World)
      → HandOver w h port r v → HandOver (moved f w) (moved_handle f h) port (mapped (moved_acted f) r) (moved f v)
  over_goes w h port r v R = port_acts plain w v h port r (over_idle (look w)) (over_idle (look (moved f w)))
      (λ i c p. handed_over p w) (λ i c p. handed_over p (moved f w)) (over_reason w) (λ i c p. over_moved p w) R

  -- ---- hand_back

  abbrev back_list : Seen → Component → Port → List (Bool × Why)
  back_list headers c p =
      (is_supplier p, why.IsSupplier)
      ∷ (not (returning c p) && not (is_executing c.state), why.NotRunning (id_of c p))
      ∷ (is_empty (headers.done p.key) && (not (returning c p) || is_empty (headers.todo p.key)), why.NoHeader)
      ∷ []

  back_reason : (w : World) (c : Component) (p : Port) → back_idle (look (moved f w)) (moved_component f c) (moved_port f p) ≡ option_map (moved_why f) (back_idle (look w) c p)
  back_reason w c p =
      (λ j. first_of_these (back_list (seen_moved f w.headers j) (moved_component f c) (moved_port f p)))
      ∙ first_alike (moved_why f) (back_list (seen w.headers) (moved_component f c) (moved_port f p)) (back_list (seen w.headers) c p) (refl, refl, (refl, refl, (refl, refl, tt)))

  returned_moved : (supplier : PortKey) (is_input : Bool) (done todo : List ℕ) (w : World) → returned supplier is_input done todo (moved f w) ≡ moved f (returned supplier is_input done todo w)
  returned_moved supplier is_input (n ∷ rest) todo w = front_put_moved supplier TodoBack unchanged (n ∷ rest) w (λ r. refl)
  returned_moved supplier is_input [] todo w = front_put_moved supplier (supplied_spot (not is_input)) cleared todo w (λ r. refl)

  noticed_moved : (i : ℕ) (c : Component) (p : Port) (ns : List ℕ) (w : World) → front_noticed i (moved_component f c) (moved_port f p) ns (moved f w) ≡ moved f (front_noticed i c p ns w)
  noticed_moved i c p [] w = refl
  noticed_moved i c p (n ∷ ns) w =
      let a = component_put f i (noted (done_note (is_input_port p) n) (moved_component f c)) (noted (done_note (is_input_port p) n) c) w refl in
      let b = changed_moved f n (λ r. given_to (owners.Notice (number_of c)) (cleared r)) (λ r. given_to (owners.Notice (number_of c)) (cleared r)) w.headers (λ r. refl) in
      λ j. record (a j) { headers = b j }

  back_moved : (i : ℕ) (c : Component) (p : Port) (o : Option Link) (w : World) → handed_back i (moved_component f c) (moved_port f p) o (moved f w) ≡ moved f (handed_back i c p o w)
  back_moved i c p (Some link) w =
      (λ j. returned link.peer (is_input_port p) ((seen_moved f w.headers j).done p.key) ((seen_moved f w.headers j).todo p.key) (moved f w))
      ∙ returned_moved link.peer (is_input_port p) ((seen w.headers).done p.key) ((seen w.headers).todo p.key) w
  back_moved i c p None w =
      (λ j. front_noticed i (moved_component f c) (moved_port f p) ((seen_moved f w.headers j).todo p.key) (moved f w)) ∙ noticed_moved i c p ((seen w.headers).todo p.key) w

  pub back_goes : (w : World) (h : Handle) (port : ℕ) (r : Result Acted OmxError) (v : World)
      → HandBack w h port r v → HandBack (moved f w) (moved_handle f h) port (mapped (moved_acted f) r) (moved f v)
  back_goes w h port r v R = port_acts plain w v h port r (back_idle (look w)) (back_idle (look (moved f w)))
      (λ i c p. handed_back i c p p.state.link w) (λ i c p. handed_back i c p p.state.link (moved f w)) (back_reason w) (λ i c p. back_moved i c p p.state.link w) R
