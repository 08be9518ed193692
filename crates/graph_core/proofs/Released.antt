-- The front header of a port that supplies its tunnel is unmade.
use Rattle.std.proofs.Common.{◌≡◌, ℕ, true, false, not, List, [], ◌∷◌, ◌++◌, Some, None, MatchOption, slice_get, option_map, refl, sym, ◌∙◌, ap, subst}
use Rattle.il_machine.specs.declared.answer.Progress.{Progress}
use Rattle.il_machine.specs.declared.port.PortKey.{PortKey}
use Rattle.il_machine.specs.declared.port.Port.{Port}
use Rattle.il_machine.specs.World.{Component, HeaderRecord, World, port_of}
use Rattle.il_machine.specs.Headers.{Seen, seen, is_notice, state_of, without}
use Rattle.il_machine.specs.Lists.{is_empty}
use Rattle.il_machine.specs.Look.{Look}
use Rattle.il_machine.specs.Ports.{is_supplier, leaving}
use Rattle.il_machine.specs.Flow.{front_unmade, in_port, release_idle}
use Rattle.il_machine.specs.Stock.{Stocked, StandsFor, header_unmade}
use Rattle.stock_laws.specs.Bare.{StandsBare, StepsBare}
use Rattle.il_machine.specs.Sound.{Sound}
use Rattle.machine_laws.proofs.Accepting.{passed}
use Rattle.machine_laws.proofs.Finding.{without_else}
use Rattle.machine_laws.proofs.Flowing.{sound_released}
use Rattle.machine_laws.proofs.Listed.{AreIn, IsIn, both_in, done_in, first_in, todo_in}
use Rattle.stock_laws.proofs.Composed.{pull_unmade, send_unmade}
use Rattle.stock_laws.proofs.Stocking.{lift_one, with_headers, IsFree}
use Rattle.il_component.specs.Entries.{Entry, component_of}
use Rattle.port_stock.specs.Kept.{StockKept, stocked}
use Rattle.graph_core.specs.Standing.{SoundWorld}
use Rattle.graph_core.specs.Supplying.{front_left, left_from}
use Rattle.graph_core.specs.Entries.{Entries, kept, component_at}
use Rattle.graph_core.proofs.Replacing.{there, next_world}
use Rattle.graph_core.proofs.Stepping.{with_stocked, stock_of, stock_steps, made_is, made_of, seen_of}
use Rattle.graph_core.proofs.Noticing.{first_number, no_number}

-- ---- what a port that releases has passed

pub released_some : (l : Look) (c : Component) (p : Port) → release_idle l c p ≡ None → None ≡ slice_get (in_port l.headers p) 0 → ⊥
released_some l c p h n =
    let a = passed (not (is_supplier p)) _ _ h in
    let b = passed (not (leaving c p)) _ _ a.1 in
    let d = (passed (is_empty (in_port l.headers p)) _ _ b.1).0 in
    let e : is_empty (in_port l.headers p) ≡ true = ap is_empty (no_number (in_port l.headers p) n) in
    let z : true ≡ false = sym e ∙ d in
    cc

-- ---- the stock

left_ports : (key : PortKey) (ts ds : List ℕ) (s : Stocked) → s.headers.done key ≡ ds → (left_from key ts s).ports ≡ s.ports
left_ports key [] [] s e = rw e refl
left_ports key [] (d ∷ ds) s e = rw e refl
left_ports key (t ∷ ts) ds s e = elim (s.headers.todo key) as (λ ns. s.headers.todo key ≡ ns → (left_from key (t ∷ ts) s).ports ≡ s.ports) [ [] ↦ λ q. rw q refl | m ∷ ms ↦ λ q. rw q refl ] refl

left_next : (key : PortKey) (ts ds : List ℕ) (s : Stocked) → s.headers.done key ≡ ds → (left_from key ts s).next ≡ s.next
left_next key [] [] s e = rw e refl
left_next key [] (d ∷ ds) s e = rw e refl
left_next key (t ∷ ts) ds s e = elim (s.headers.todo key) as (λ ns. s.headers.todo key ≡ ns → (left_from key (t ∷ ts) s).next ≡ s.next) [ [] ↦ λ q. rw q refl | m ∷ ms ↦ λ q. rw q refl ] refl

left_key : (key : PortKey) (ts ds : List ℕ) (s : Stocked) → s.headers.done key ≡ ds → (left_from key ts s).key ≡ s.key
left_key key [] [] s e = rw e refl
left_key key [] (d ∷ ds) s e = rw e refl
left_key key (t ∷ ts) ds s e = elim (s.headers.todo key) as (λ ns. s.headers.todo key ≡ ns → (left_from key (t ∷ ts) s).key ≡ s.key) [ [] ↦ λ q. rw q refl | m ∷ ms ↦ λ q. rw q refl ] refl

pub front_left_ports : (key : PortKey) (s : Stocked) → (front_left key s).ports ≡ s.ports
front_left_ports key s = left_ports key (s.headers.todo key) (s.headers.done key) s refl

unmade_stands : (s : Stocked) (hs : List HeaderRecord) (key : PortKey) (n : ℕ) (ts : List ℕ) → StandsFor s hs → s.headers.todo key ≡ ts → Some n ≡ slice_get (ts ++ s.headers.done key) 0 → StandsFor (header_unmade n (left_from key ts s)) (without n hs)
unmade_stands s hs key n [] S e f = let x = first_number (s.headers.done key) n f in send_unmade s hs key n x.0 S x.1
unmade_stands s hs key n (m ∷ ms) S e f =
    let q : m ≡ n = cc in
    subst (λ (k : ℕ). StandsFor (header_unmade k (left_from key (m ∷ ms) s)) (without k hs)) q (pull_unmade s hs key m ms S e)

module _ {C : Type 0} (progress : C → Progress) (g : Entries C) (i : ℕ) (e : Entry C) (index : ℕ) (p : Port) (n : ℕ) (W : SoundWorld (kept progress g)) (at : slice_get g.entries i ≡ Some e) (port : port_of (component_of e) index ≡ Some p) where
  abbrev s : Stocked
  s = stocked g.stock

  module _ (front : Some n ≡ slice_get (in_port s.headers p) 0) (after_stock : StockKept) (now : stocked after_stock ≡ header_unmade n (front_left p.key s)) where
    abbrev rest : List ℕ
    rest = (first_number (in_port s.headers p) n front).0

    world_front : (w : World) → StandsBare (kept progress g) w → in_port (seen w.headers) p ≡ n ∷ rest
    world_front w S = ap (λ (x : Seen). in_port x p) (seen_of progress g w S) ∙ (first_number (in_port s.headers p) n front).1

    -- the port has the header
    free : IsFree n s
    free =
        let hs = W.world.headers in
        let o = W.stands.once in
        let A : AreIn p.key hs (in_port (seen hs) p) = both_in p.key hs ((seen hs).todo p.key) ((seen hs).done p.key) (todo_in p.key hs o) (done_in p.key hs o) in
        let I : IsIn p.key hs n = first_in p.key hs (in_port (seen hs) p) rest n A (world_front W.world W.stands) in
        let h : s.headers.header n ≡ Some (I.header).state = sym (ap (λ (x : Seen). x.header n) (seen_of progress g W.world W.stands)) ∙ ap (option_map state_of) I.found in
        let z : is_notice (I.header).state.owner ≡ false = rw I.owner refl in
        rw h z

    abbrev Change : World → World → Type 0
    Change w v = v ≡ front_unmade (in_port (seen w.headers) p) w

    released_steps : StepsBare (kept progress g) (kept progress (with_stocked progress after_stock g)) Change
    released_steps = stock_steps progress g after_stock (header_unmade n (front_left p.key s)) Change now
        (λ w S.
        let x = lift_one (kept progress g) s (header_unmade n (front_left p.key s)) n (without n) (stock_of progress g) (left_key p.key (s.headers.todo p.key) (s.headers.done p.key) s refl) free
        (λ hs T. unmade_stands s hs p.key n (s.headers.todo p.key) T refl front)
        (λ hs T. λ m q. without_else n m hs q) w S in
        let k : (header_unmade n (front_left p.key s)).next ≡ s.next = left_next p.key (s.headers.todo p.key) (s.headers.done p.key) s refl in
        let y : with_headers (without n w.headers) (header_unmade n (front_left p.key s)).next w ≡ front_unmade (n ∷ rest) w =
        ap (λ (m : ℕ). with_headers (without n w.headers) m w) k ∙ made_is progress w (without n w.headers) s.next (made_of progress g w S) in
        (x.0, x.1, x.2 ∙ (y ∙ ap (λ (ns : List ℕ). front_unmade ns w) (sym (world_front w S)))))

    pub released_returns : MatchOption (component_at i g) ⊥ (λ c. MatchOption (port_of c index) ⊥ (λ p. StepsBare (kept progress g) (kept progress (with_stocked progress after_stock g)) (λ w v. v ≡ front_unmade (in_port (seen w.headers) p) w)))
    released_returns = rw (there progress g i e at, port) released_steps

    pub released_worlds : SoundWorld (kept progress (with_stocked progress after_stock g))
    released_worlds = next_world (kept progress g) (kept progress (with_stocked progress after_stock g)) Change W released_steps (λ w v S f sound. subst Sound (sym f) (sound_released w p sound))
