-- Headers of client ports are made, unmade and handed in.
use Rattle.std.proofs.Common.{◌≡◌, ℕ, ◌+◌, ◌<◌, ◌≤◌, true, false, not, ◌&&◌, nat_eq, List, [], ◌∷◌, ◌++◌, is_some, Option, Some, None, MatchOption, slice_get, refl, sym, ◌∙◌, ap, subst, arith}
use Rattle.std.proofs.lemmas.Bool.Decides.{nat_tests}
use Rattle.omx_types.specs.declared.error.OmxError.TheVariants as errors
use Rattle.il_machine.specs.declared.answer.Progress.{Progress}
use Rattle.il_machine.specs.declared.port.PortKey.{PortKey}
use Rattle.il_machine.specs.declared.port.Port.{Port}
use Rattle.il_machine.specs.declared.header.HeaderState.{HeaderState}
use Rattle.il_machine.specs.declared.header.Owner.{Owner}
use Rattle.il_machine.specs.declared.header.Owner.TheVariants as owners
use Rattle.il_machine.specs.declared.header.Queue.TheVariants.{Out}
use Rattle.il_machine.specs.declared.header.Spot.TheVariants.{TodoBack}
use Rattle.il_machine.specs.World.{Component, HeaderRecord, World, port_of, with_component}
use Rattle.il_machine.specs.Headers.{Seen, seen, count_headers, is_for, is_notice, put, loaded, without, empty_load}
use Rattle.il_machine.specs.Look.{look}
use Rattle.il_machine.specs.Lists.{holds_at}
use Rattle.il_machine.specs.Room.{room}
use Rattle.il_machine.specs.Ports.{accepting}
use Rattle.il_machine.specs.Buffers.{has_no_block, client_header, with_header, with_todo, without_header, unpopulated, is_unpopulating, free_buffer_refusal, load_in}
use Rattle.il_machine.specs.Stock.{Stocked, StandsFor, header_made, pushed, header_unmade}
use Rattle.stock_laws.specs.Bare.{StandsBare, StepsBare}
use Rattle.il_machine.specs.Sound.{Sound, IsOwnedSo}
use Rattle.machine_laws.proofs.Accepting.{passed}
use Rattle.machine_laws.proofs.ClientHeaders.{accepts_fewer, sound_made, sound_put, sound_freed}
use Rattle.machine_laws.proofs.Facts.{port_limits}
use Rattle.machine_laws.proofs.Finding.{push_else, without_else}
use Rattle.machine_laws.proofs.Keys.{there_is, at_there}
use Rattle.machine_laws.proofs.Lookups.{port_there_at}
use Rattle.machine_laws.proofs.Parts.{parts_of}
use Rattle.machine_laws.proofs.Replacing.{replaced_put}
use Rattle.stock_laws.proofs.Standing.{Found, found, push_stands, make_stands, unmake_stands}
use Rattle.stock_laws.proofs.Stocking.{lift_one, with_headers, stands_for, IsFree}
use Rattle.header_core.specs.BufferHeader.{BufferHeader}
use Rattle.il_component.specs.Entries.{Entry, component_of, KeepsNotices}
use Rattle.port_stock.specs.Kept.{StockKept, stocked}
use Rattle.port_stock.specs.Conditions.{HasBlockFor, IsOutside, IsHeaderOf, made_in}
use Rattle.graph_core.specs.Booked.{row_for}
use Rattle.graph_core.specs.Standing.{SoundWorld}
use Rattle.graph_core.specs.Changes.{IsHandedIn, IsMakable}
use Rattle.graph_core.specs.Entries.{Entries, look_of, kept, changed_at, component_at}
use Rattle.machine_laws.proofs.Headers.{is_set_aside}
use Rattle.graph_core.proofs.SameParts.{part_as, part_unpopulated}
use Rattle.graph_core.proofs.Replacing.{there, next_world, steps_changed}
use Rattle.graph_core.proofs.Stepping.{at_world, with_stocked, stock_of, stock_steps, made_is, made_of, seen_of}

-- the component tells at most, and is else as before
pub unpopulated_handle : (p : Port) (c : Component) → (unpopulated p c).handle ≡ c.handle
unpopulated_handle p c = elim (is_unpopulating c p) as (λ b. is_unpopulating c p ≡ b → (unpopulated p c).handle ≡ c.handle) [ true ↦ λ q. rw q refl | false ↦ λ q. rw q refl ] refl

pub unpopulated_ports : (p : Port) (c : Component) → (unpopulated p c).ports ≡ c.ports
unpopulated_ports p c = elim (is_unpopulating c p) as (λ b. is_unpopulating c p ≡ b → (unpopulated p c).ports ≡ c.ports) [ true ↦ λ q. rw q refl | false ↦ λ q. rw q refl ] refl

pub unpopulated_pending : (p : Port) (c : Component) → (unpopulated p c).pending ≡ c.pending
unpopulated_pending p c = elim (is_unpopulating c p) as (λ b. is_unpopulating c p ≡ b → (unpopulated p c).pending ≡ c.pending) [ true ↦ λ q. rw q refl | false ↦ λ q. rw q refl ] refl

pub unpopulated_row : (p : Port) (c : Component) → row_for (unpopulated p c) ≡ row_for c
unpopulated_row p c = elim (is_unpopulating c p) as (λ b. is_unpopulating c p ≡ b → row_for (unpopulated p c) ≡ row_for c) [ true ↦ λ q. rw q refl | false ↦ λ q. rw q refl ] refl

owned_by : (s : HeaderState) (owner : Owner) → s.owner ≡ owner → IsOwnedSo s s.owner → IsOwnedSo s owner
owned_by s owner q O = subst (IsOwnedSo s) q O

made_for : (o : Option HeaderState) (key : PortKey) (h : HeaderState) → o ≡ Some h → MatchOption o ⊥ (λ s. is_for key s ≡ true) → is_for key h ≡ true
made_for o key h q x = at_there o (λ s. is_for key s ≡ true) h q x

needs_port : (o : Option HeaderState) (c : Component) (Own : HeaderState → Type 0) → MatchOption o ⊥ Own → MatchOption o ⊥ (λ h. free_buffer_refusal c None h ≡ None) → ⊥
needs_port None c Own x y = y
needs_port (Some h) c Own x y = absurd cc

-- a header is unmade of a port that is there
pub port_needed : {C : Type 0} (progress : C → Progress) (g : Entries C) (i : ℕ) (e : Entry C) → SoundWorld (kept progress g) → slice_get g.entries i ≡ Some e → (header : BufferHeader) → IsHandedIn header (look_of g)
    → MatchOption ((look_of g).headers.header header.held.number) ⊥ (λ h. free_buffer_refusal (component_of e) None h ≡ None) → ⊥
port_needed progress g i e W at header handed x = needs_port ((look_of g).headers.header header.held.number) (component_of e) (λ h. (h.owner ≡ owners.Client) × IsHeaderOf h header) handed.1 x

-- a block is free, where one is needed
pub block_for : (memory : Option (List ℕ)) (s : Stocked) → (memory ≡ None → has_no_block s.headers ≡ false) → HasBlockFor memory s
block_for None s h = let q = h refl in grind (arith, nat_tests)
block_for (Some bytes) s h = tt

module _ {C : Type 0} (progress : C → Progress) (g : Entries C) (i : ℕ) (e : Entry C) (index : ℕ) (p : Port) (W : SoundWorld (kept progress g)) (at : slice_get g.entries i ≡ Some e) (port : port_of (component_of e) index ≡ Some p) where
  abbrev c : Component
  c = component_of e

  abbrev s : Stocked
  s = stocked g.stock

  abbrev pub Clause : Entries C → (Component → Port → World → World → Type 0) → Type 0
  Clause after F = MatchOption (component_at i g) ⊥ (λ c. MatchOption (port_of c index) ⊥ (λ p. StepsBare (kept progress g) (kept progress after) (F c p)))

  clause_from : (after : Entries C) (F : Component → Port → World → World → Type 0) → StepsBare (kept progress g) (kept progress after) (F c p) → Clause after F
  clause_from after F f = rw (there progress g i e at, port) f

  world_stands : (w : World) → StandsBare (kept progress g) w → StandsFor s w.headers
  world_stands w S = stands_for s (kept progress g) w (stock_of progress g) S

  -- ---- a header is made

  module _ (memory : Option (List ℕ)) (M : IsMakable (look_of g) c p memory) where
    abbrev made : HeaderState
    made = client_header s.next p (is_some memory)

    accepts_in : (w : World) → StandsBare (kept progress g) w → accepting (look w).headers c p ≡ true
    accepts_in w S = ap (λ (x : Seen). accepting x c p) (seen_of progress g w S) ∙ M.accepts

    pub few_made : made_in s p.key < 32
    few_made =
        let w = W.world in
        let here = at_world progress g i e w W.stands at in
        let P = parts_of w W.sound in
        let few = P.tied.few p.key p (port_there_at w.numbered i w.components c index p P.rising here port) in
        let D = port_limits c index p (P.components i c here) port in
        let a = accepts_fewer w c p (accepts_in w W.stands) few in
        let q : count_headers (is_for p.key) w.headers ≡ made_in s p.key = ap (λ (x : Seen). x.count (is_for p.key)) (seen_of progress g w W.stands) in
        let m = D.most_count in
        omega arith

    pub least_size : 1 ≤ p.setting.definition.size
    least_size = (port_limits c index p ((parts_of W.world W.sound).components i c (at_world progress g i e W.world W.stands at)) port).least_size

    pub most_size : p.setting.definition.size ≤ 4096
    most_size = (port_limits c index p ((parts_of W.world W.sound).components i c (at_world progress g i e W.world W.stands at)) port).most_size

    module _ (new : s.headers.header s.next ≡ None) (after_stock : StockKept) (now : stocked after_stock ≡ header_made made s) where
      abbrev record_made : HeaderRecord
      record_made = record { state = made; load = empty_load memory }

      steps_made : StepsBare (kept progress g) (kept progress (with_stocked progress after_stock g)) (λ w v. v ≡ with_header (client_header w.made p (is_some memory)) memory w)
      steps_made = stock_steps progress g after_stock (header_made made s) (λ w v. v ≡ with_header (client_header w.made p (is_some memory)) memory w) now
          (λ w S.
          let free : IsFree s.next s = rw new tt in
          let x = lift_one (kept progress g) s (header_made made s) s.next (λ hs. hs ++ record_made ∷ []) (stock_of progress g) refl free
          (λ hs T. make_stands s hs made (empty_load memory) T new refl refl)
          (λ hs T. λ m d. push_else m hs record_made (λ q. d (sym q))) w S in
          let m : w.made ≡ s.next = made_of progress g w S in
          (x.0, x.1, x.2 ∙ ap (λ (k : ℕ). record w { headers = w.headers ++ record { state = client_header k p (is_some memory); load = empty_load memory } ∷ []; made = k + 1 }) (sym m)))

      pub made_returns : Clause (with_stocked progress after_stock g) (λ c p w v. v ≡ with_header (client_header w.made p (is_some memory)) memory w)
      made_returns = clause_from (with_stocked progress after_stock g) (λ c p w v. v ≡ with_header (client_header w.made p (is_some memory)) memory w) steps_made

      pub made_worlds : SoundWorld (kept progress (with_stocked progress after_stock g))
      made_worlds = next_world (kept progress g) (kept progress (with_stocked progress after_stock g)) (λ w v. v ≡ with_header (client_header w.made p (is_some memory)) memory w) W steps_made
          (λ w v S f sound. subst Sound (sym f) (sound_made w i c index p (is_some memory) memory sound (at_world progress g i e w S at) port (accepts_in w S) M.alone))

  -- ---- a header that the client has

  module _ (header : BufferHeader) (handed : IsHandedIn header (look_of g)) where
    abbrev n : ℕ
    n = header.held.number

    abbrev Own : HeaderState → Type 0
    Own h = (h.owner ≡ owners.Client) × IsHeaderOf h header

    abbrev is_there : (h : HeaderState) × (s.headers.header n ≡ Some h) × Own h
    is_there = there_is (s.headers.header n) Own handed.1

    abbrev pub state : HeaderState
    state = is_there.0

    pub shown : s.headers.header n ≡ Some state
    shown = is_there.1

    with_client : state.owner ≡ owners.Client
    with_client = is_there.2.0

    found_in : (w : World) → StandsBare (kept progress g) w → Found n w.headers state
    found_in w S = found s w.headers n state (world_stands w S) shown

    place_out : state.queue ≡ Out
    place_out =
        let F = found_in W.world W.stands in
        let O = ((parts_of W.world W.sound).tied.placed n F.it F.is).owner in
        let z : IsOwnedSo state state.owner = subst (λ (h : HeaderState). IsOwnedSo h h.owner) F.state O in
        (owned_by state owners.Client with_client z).0

    pub outside : IsOutside header s
    outside = (handed.0, rw shown (place_out, is_there.2.1))

    free : IsFree n s
    free = let z : is_notice state.owner ≡ false = rw with_client refl in rw shown z

    -- the header may be unmade
    pub allowed_at : (o : Option Port) → MatchOption (s.headers.header n) ⊥ (λ h. free_buffer_refusal c o h ≡ None) → free_buffer_refusal c o state ≡ None
    allowed_at o x = at_there (s.headers.header n) (λ h. free_buffer_refusal c o h ≡ None) state shown x

    pub room_there : free_buffer_refusal c (Some p) state ≡ None → is_unpopulating c p ≡ true → 0 < room c
    room_there h u =
        let a = passed (not (is_for p.key state)) errors.BadParameter _ h in
        let b = passed (is_unpopulating c p && nat_eq (room c) 0) errors.NotReady None a.1 in
        let d : nat_eq (room c) 0 ≡ false = rw u at b.0 in
        grind (arith, nat_tests)

    -- it is put into todo

    pub for_this_port : MatchOption (s.headers.header n) ⊥ (λ h. is_for p.key h ≡ true) → holds_at (s.headers.header n) (is_for p.key) ≡ true
    for_this_port x = let y : is_for p.key state ≡ true = made_for (s.headers.header n) p.key state shown x in rw shown y

    module _ (for_port : MatchOption (s.headers.header n) ⊥ (λ h. is_for p.key h ≡ true)) (after_stock : StockKept) (now : stocked after_stock ≡ pushed p.key TodoBack n (load_in header.held) s) where
      for_key : is_for p.key state ≡ true
      for_key = made_for (s.headers.header n) p.key state shown for_port

      steps_in : StepsBare (kept progress g) (kept progress (with_stocked progress after_stock g)) (λ w v. v ≡ with_todo p.key n (loaded (load_in header.held)) w)
      steps_in = stock_steps progress g after_stock (pushed p.key TodoBack n (load_in header.held) s) (λ w v. v ≡ with_todo p.key n (loaded (load_in header.held)) w) now
          (λ w S.
          let x = lift_one (kept progress g) s (pushed p.key TodoBack n (load_in header.held) s) n (put p.key TodoBack n (loaded (load_in header.held))) (stock_of progress g) refl free
          (λ hs T. push_stands s hs p.key TodoBack n (load_in header.held) state T shown place_out)
          (λ hs T. let F = found s hs n state T shown in (replaced_put p.key TodoBack (loaded (load_in header.held)) (λ r. refl) n hs F.it T.once F.is).others) w S in
          (x.0, x.1, x.2 ∙ made_is progress w (put p.key TodoBack n (loaded (load_in header.held)) w.headers) s.next (made_of progress g w S)))

      pub in_returns : Clause (with_stocked progress after_stock g) (λ c p w v. v ≡ with_todo p.key n (loaded (load_in header.held)) w)
      in_returns = clause_from (with_stocked progress after_stock g) (λ c p w v. v ≡ with_todo p.key n (loaded (load_in header.held)) w) steps_in

      pub in_worlds : SoundWorld (kept progress (with_stocked progress after_stock g))
      in_worlds = next_world (kept progress g) (kept progress (with_stocked progress after_stock g)) (λ w v. v ≡ with_todo p.key n (loaded (load_in header.held)) w) W steps_in
          (λ w v S f sound.
          let F = found_in w S in
          let unnoticed : is_set_aside F.it.state.owner ≡ false = rw (F.state, with_client) refl in
          let own : is_for p.key F.it.state ≡ true = rw F.state for_key in
          subst Sound (sym f) (sound_put w p.key n (loaded (load_in header.held)) F.it (λ x. refl) sound F.is unnoticed own))

    -- it is unmade

    module _ (allowed : free_buffer_refusal c (Some p) state ≡ None) (d : Entry C) (is : component_of d ≡ unpopulated p c) (keeps : KeepsNotices e d) (after_stock : StockKept) (now : stocked after_stock ≡ header_unmade n s) where
      abbrev after : Entries C
      after = with_stocked progress after_stock (changed_at i d g)

      steps_freed : StepsBare (kept progress g) (kept progress after) (λ w v. v ≡ without_header n (with_component i (unpopulated p c) w))
      steps_freed = λ w S.
          let x = steps_changed progress g i e d at keeps (part_as c (component_of d) (unpopulated p c) is (part_unpopulated p c)) w S in
          let f = stock_steps progress (changed_at i d g) after_stock (header_unmade n s) (λ w v. v ≡ with_headers (without n w.headers) s.next w) now
          (lift_one (kept progress (changed_at i d g)) s (header_unmade n s) n (without n) (stock_of progress (changed_at i d g)) refl free
          (λ hs T. unmake_stands s hs n state T shown place_out)
          (λ hs T. λ m q. without_else n m hs q)) in
          let y = f x.0 x.1 in
          let to : World → World = λ u. with_headers (without n u.headers) s.next u in
          (y.0, y.1, y.2 ∙ (ap to (x.2 ∙ ap (λ (k : Component). with_component i k w) is) ∙ made_is progress (with_component i (unpopulated p c) w) (without n w.headers) s.next (made_of progress g w S)))

      pub freed_returns : Clause after (λ c p w v. v ≡ without_header n (with_component i (unpopulated p c) w))
      freed_returns = clause_from after (λ c p w v. v ≡ without_header n (with_component i (unpopulated p c) w)) steps_freed

      pub freed_worlds : SoundWorld (kept progress after)
      freed_worlds = next_world (kept progress g) (kept progress after) (λ w v. v ≡ without_header n (with_component i (unpopulated p c) w)) W steps_freed
          (λ w v S f sound.
          let h : (seen w.headers).header n ≡ Some state = ap (λ (x : Seen). x.header n) (seen_of progress g w S) ∙ shown in
          let a : free_buffer_refusal c (port_of c index) state ≡ None = rw port allowed in
          subst Sound (sym f) (sound_freed w i c index p state n sound (at_world progress g i e w S at) port h with_client a))
