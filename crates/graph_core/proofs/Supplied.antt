-- A header of a tunnel is made by the end that supplies it.
use Rattle.std.proofs.Common.{◌≡◌, ℕ, ◌+◌, ◌<◌, ◌≤◌, Bool, true, false, not, List, [], ◌∷◌, ◌++◌, Some, None, MatchOption, slice_get, refl, sym, ◌∙◌, ap, subst, arith}
use Rattle.il_machine.specs.declared.answer.Progress.{Progress}
use Rattle.il_machine.specs.declared.port.PortKey.{PortKey}
use Rattle.il_machine.specs.declared.port.Link.{Link}
use Rattle.il_machine.specs.declared.port.Port.{Port}
use Rattle.il_machine.specs.declared.header.HeaderState.{HeaderState}
use Rattle.il_machine.specs.World.{Component, HeaderRecord, World, port_of}
use Rattle.il_machine.specs.Headers.{Seen, count_headers, is_for, at_spot, put_at, empty_load}
use Rattle.il_machine.specs.Look.{Look, look}
use Rattle.il_machine.specs.Ports.{accepting, is_supplier, is_input_port}
use Rattle.il_machine.specs.Buffers.{has_no_block, has_no_number}
use Rattle.il_machine.specs.Flow.{End, other_end, supply_idle, supplied_by, tunnel_header, with_supplied, supplied_spot}
use Rattle.il_machine.specs.Stock.{Stocked, StandsFor}
use Rattle.stock_laws.specs.Bare.{StepsBare}
use Rattle.il_machine.specs.Sound.{Sound}
use Rattle.machine_laws.proofs.Accepting.{passed, not_not}
use Rattle.machine_laws.proofs.ClientHeaders.{accepts_fewer}
use Rattle.machine_laws.proofs.Facts.{port_limits}
use Rattle.machine_laws.proofs.Finding.{push_else}
use Rattle.machine_laws.proofs.Flowing.{sound_supplied}
use Rattle.machine_laws.proofs.Lookups.{HasPort, port_there_at}
use Rattle.machine_laws.proofs.Parts.{parts_of}
use Rattle.stock_laws.proofs.Composed.{make_put}
use Rattle.stock_laws.proofs.Stocking.{lift_one, with_headers, IsFree}
use Rattle.il_component.specs.Entries.{Entry, component_of}
use Rattle.port_stock.specs.Kept.{StockKept, stocked}
use Rattle.port_stock.specs.Conditions.{made_in}
use Rattle.graph_core.specs.Standing.{SoundWorld, HasPorts}
use Rattle.graph_core.specs.Supplying.{HasRoom, supplied_header, with_supply}
use Rattle.graph_core.specs.Entries.{Entries, look_of, kept, component_at}
use Rattle.graph_core.proofs.Replacing.{there, next_world}
use Rattle.graph_core.proofs.Stepping.{at_world, with_stocked, stock_of, stock_steps, made_of, seen_of, port_kept}
use Rattle.graph_core.proofs.Handing.{block_for}
use Rattle.graph_core.proofs.Peers as peers

-- ---- what a port that supplies has passed

pub record MaySupply (l : Look) (c : Component) (p : Port) (e : End) : Type 0 where
  pub accepts : accepting l.headers c p ≡ true
  pub peer_accepts : accepting l.headers e.component e.port ≡ true
  pub block : has_no_block l.headers ≡ false
  pub numbers : has_no_number l ≡ false

pub may_supply : (l : Look) (c : Component) (p : Port) (e : End) → other_end l.components p ≡ Some e → supply_idle l c p ≡ None → MaySupply l c p e
may_supply l c p e o h =
    let g = rw o at h in
    let a = passed (not (is_supplier p)) _ _ g in
    let b = passed (not (accepting l.headers c p)) _ _ a.1 in
    let d = passed (not (accepting l.headers e.component e.port)) _ _ b.1 in
    let n = passed _ _ _ d.1 in
    record {
      accepts = not_not (accepting l.headers c p) b.0;
      peer_accepts = not_not (accepting l.headers e.component e.port) d.0;
      block = n.0;
      numbers = (passed (has_no_number l) _ _ n.1).0;
    }

pub supplies_joined : (l : Look) (c : Component) (p : Port) → supply_idle l c p ≡ None → p.state.link ≡ None → ⊥
supplies_joined l c p h n =
    let s : is_supplier p ≡ true = not_not (is_supplier p) (passed (not (is_supplier p)) _ _ h).0 in
    let z : is_supplier p ≡ false = rw n refl in
    let x : true ≡ false = sym s ∙ z in
    cc

-- ---- the header's place

at_back : (input : Bool) (r : HeaderRecord) (hs : List HeaderRecord) → at_spot (supplied_spot input) r hs ≡ hs ++ r ∷ []
at_back true r hs = refl
at_back false r hs = refl

module _ {C : Type 0} (progress : C → Progress) (g : Entries C) (i : ℕ) (e : Entry C) (index : ℕ) (p : Port) (link : Link) (W : SoundWorld (kept progress g)) (at : slice_get g.entries i ≡ Some e) (port : port_of (component_of e) index ≡ Some p) (joined : p.state.link ≡ Some link) (M : supply_idle (look_of g) (component_of e) p ≡ None) where
  abbrev c : Component
  c = component_of e

  abbrev s : Stocked
  s = stocked g.stock

  abbrev peer : PortKey
  peer = link.peer

  abbrev far : End
  far = peers.far progress g i e index p link W at port joined

  far_has : HasPort W.world.components peer far.port
  far_has = peers.peer_has progress g i e index p link W at port joined

  far_key : far.port.key ≡ peer
  far_key = (peers.other progress g i e index p link W at port joined).key

  may : MaySupply (look_of g) c p far
  may = may_supply (look_of g) c p far (peers.far_is progress g i e index p link W at port joined) M

  -- ---- both ends have room for a header

  few_at : (c : Component) (p : Port) → accepting s.headers c p ≡ true → count_headers (is_for p.key) W.world.headers ≤ p.setting.definition.count → p.setting.definition.count ≤ 32 → made_in s p.key < 32
  few_at c p a few most =
      let w = W.world in
      let f = accepts_fewer w c p (ap (λ (x : Seen). accepting x c p) (seen_of progress g w W.stands) ∙ a) few in
      let q : count_headers (is_for p.key) w.headers ≡ made_in s p.key = ap (λ (x : Seen). x.count (is_for p.key)) (seen_of progress g w W.stands) in
      omega arith

  few_made : made_in s p.key < 32
  few_made =
      let w = W.world in
      let here = at_world progress g i e w W.stands at in
      let P = parts_of w W.sound in
      few_at c p may.accepts (P.tied.few p.key p (port_there_at w.numbered i w.components c index p P.rising here port)) (port_limits c index p (P.components i c here) port).most_count

  few_of_peer : made_in s peer < 32
  few_of_peer =
      let P = parts_of W.world W.sound in
      let d = far.port in
      let few : count_headers (is_for d.key) W.world.headers ≤ d.setting.definition.count =
      subst (λ (k : PortKey). count_headers (is_for k) W.world.headers ≤ d.setting.definition.count) (sym far_key) (P.tied.few peer d (peers.peer_at progress g i e index p link W at port joined)) in
      let most = (port_limits far_has.component peer.port d (P.components far_has.place far_has.component far_has.there) far_has.port).most_count in
      subst (λ (k : PortKey). made_in s k < 32) far_key (few_at far.component d may.peer_accepts few most)

  pub room : HasPorts g.entries s g.numbered → HasRoom p peer s
  room P =
      let D = port_limits c index p ((parts_of W.world W.sound).components i c (at_world progress g i e W.world W.stands at)) port in
      record {
        port_there = port_kept progress g.entries s g.numbered i index e p P at port;
        peer_there = peers.peer_kept progress g i e index p link W at port joined P;
        some = D.least_size;
        limit = D.most_size;
        block = block_for None s (λ _. may.block);
        few = few_made;
        few_of_peer = few_of_peer;
      }

  pub numbers_left : has_no_number (look_of g) ≡ false
  numbers_left = may.numbers

  -- ---- the header

  abbrev made : HeaderState
  made = supplied_header p peer s.next

  abbrev record_of : ℕ → HeaderRecord
  record_of number = record { state = tunnel_header number p peer; load = empty_load None }

  placed : (hs : List HeaderRecord) → at_spot (supplied_spot (is_input_port p)) (put_at p.key (supplied_spot (is_input_port p)) (record { state = made; load = empty_load None })) hs ≡ hs ++ record_of s.next ∷ []
  placed hs = at_back (is_input_port p) (put_at p.key (supplied_spot (is_input_port p)) (record { state = made; load = empty_load None })) hs

  module _ (new : s.headers.header s.next ≡ None) (after_stock : StockKept) (now : stocked after_stock ≡ with_supply p peer s) where
    abbrev Change : World → World → Type 0
    Change w v = v ≡ with_supplied p w

    supplied_is : (w : World) → w.made ≡ s.next → with_headers (w.headers ++ record_of s.next ∷ []) (s.next + 1) w ≡ with_supplied p w
    supplied_is w m =
        let f : supplied_by w.made p p.state.link ≡ record_of w.made ∷ [] = ap (supplied_by w.made p) joined in
        ap (λ (k : ℕ). record w { headers = w.headers ++ record_of k ∷ []; made = k + 1 }) (sym m)
        ∙ ap (λ (rs : List HeaderRecord). record w { headers = w.headers ++ rs; made = w.made + 1 }) (sym f)

    supplied_steps : StepsBare (kept progress g) (kept progress (with_stocked progress after_stock g)) Change
    supplied_steps = stock_steps progress g after_stock (with_supply p peer s) Change now
        (λ w S.
        let free : IsFree s.next s = rw new tt in
        let x = lift_one (kept progress g) s (with_supply p peer s) s.next (λ hs. hs ++ record_of s.next ∷ []) (stock_of progress g) refl free
        (λ hs T. subst (λ (ks : List HeaderRecord). StandsFor (with_supply p peer s) ks) (placed hs) (make_put s hs made p.key (supplied_spot (is_input_port p)) (empty_load None) T new refl refl))
        (λ hs T. λ m d. push_else m hs (record_of s.next) (λ q. d (sym q))) w S in
        (x.0, x.1, x.2 ∙ supplied_is w (made_of progress g w S)))

    pub supplied_returns : MatchOption (component_at i g) ⊥ (λ c. MatchOption (port_of c index) ⊥ (λ p. StepsBare (kept progress g) (kept progress (with_stocked progress after_stock g)) (λ w v. v ≡ with_supplied p w)))
    supplied_returns = rw (there progress g i e at, port) supplied_steps

    pub supplied_worlds : SoundWorld (kept progress (with_stocked progress after_stock g))
    supplied_worlds = next_world (kept progress g) (kept progress (with_stocked progress after_stock g)) Change W supplied_steps
        (λ w v S f sound.
        let a : supply_idle (look w) c p ≡ None = ap (λ (l : Look). supply_idle l c p) S.looks ∙ M in
        subst Sound (sym f) (sound_supplied w i c index p sound (at_world progress g i e w S at) port a))
