-- A component leaves a graph: what is kept then, and what stays true of it.
use Rattle.std.proofs.Common.{◌≡◌, ◌≢◌, ℕ, ◌<◌, true, false, not, ◌||◌, nat_eq, List, [], ◌∷◌, map, filter, remove, Option, Some, None, IsSome, is_none, is_some, slice_get, refl, sym, ◌∙◌, ap, subst, eqb-true}
use Rattle.std.proofs.lemmas.List.Elements.{All-filter}
use Rattle.std.specs.List.{list_any}
use Rattle.omx_types.specs.declared.error.OmxError.TheVariants as errors
use Rattle.il_machine.specs.declared.answer.Progress.{Progress}
use Rattle.il_machine.specs.declared.port.PortKey.{PortKey}
use Rattle.il_machine.specs.declared.port.Port.{Port}
use Rattle.il_machine.specs.States.{is_loaded, is_invalid}
use Rattle.il_machine.specs.World.{Component, World, number_of, ports_of, port_of}
use Rattle.il_machine.specs.Look.{Look, look}
use Rattle.il_machine.specs.Headers.{Seen, seen, is_for, same_key}
use Rattle.il_machine.specs.Ports.{is_joined, has_no_header}
use Rattle.il_machine.specs.Due.{each_port}
use Rattle.il_machine.specs.Stock.{Stocked, removed}
use Rattle.il_machine.specs.Components.{free_refusal, without_component}
use Rattle.il_machine.specs.Whole.{Kept}
use Rattle.stock_laws.specs.Bare.{StepsBare}
use Rattle.il_machine.specs.Sound.{Sound}
use Rattle.machine_laws.proofs.Accepting.{passed, not_either}
use Rattle.machine_laws.proofs.Coming.{free_handle_passes, sound_removed}
use Rattle.machine_laws.proofs.Every.{all_pass, at_remove}
use Rattle.machine_laws.proofs.Facts.{notes_empty}
use Rattle.machine_laws.proofs.Keys.{key_is}
use Rattle.machine_laws.proofs.Lookups.{port_at_is, port_parts}
use Rattle.machine_laws.proofs.Pairs.{apart_numbers}
use Rattle.stock_laws.proofs.Lists.{map_remove}
use Rattle.stock_laws.proofs.Entries.{held_removed}
use Rattle.stock_laws.proofs.Noting.{IsOnly}
use Rattle.stock_laws.proofs.Making.{with_removed, lift_removed}
use Rattle.note_queues.specs.Queues.{header_notes}
use Rattle.port_stock.specs.Kept.{StockKept, stocked}
use Rattle.port_stock.specs.Conditions.{IsUnmade, has_key}
use Rattle.il_component.specs.Entries.{Entry, component_of}
use Rattle.graph_core.specs.Standing.{HasPorts, SoundWorld}
use Rattle.graph_core.specs.Entries.{Entries, components_of, held_by, noticed_in, progress_at, kept, look_of}
use Rattle.graph_core.proofs.Adding.{none_made}
use Rattle.graph_core.proofs.Replacing.{next_world, there}

-- ---- lists of ports

has_filtered : (key : PortKey) (number : ℕ) (xs : List PortKey) → key.component ≢ number → has_key key xs ≡ true → has_key key (filter (λ k. not (nat_eq k.component number)) xs) ≡ true
has_filtered key number [] d h = h
has_filtered key number (x ∷ xs) d h =
    let i = has_filtered key number xs d in
    let same = key_is key x in
    elim (nat_eq x.component number) as (λ b. nat_eq x.component number ≡ b → has_key key (filter (λ k. not (nat_eq k.component number)) (x ∷ xs)) ≡ true) [
      | true ↦ λ e.
          let f : filter (λ k. not (nat_eq k.component number)) (x ∷ xs) ≡ filter (λ k. not (nat_eq k.component number)) xs = rw e refl in
          rw f (i (elim (same_key key x) as (λ b. same_key key x ≡ b → (b || has_key key xs) ≡ true → has_key key xs ≡ true)
          [ true ↦ λ s t. absurd (d (ap (λ (k : PortKey). k.component) (same s) ∙ eqb-true x.component number e)) | false ↦ λ s t. t ] refl h))
      | false ↦ λ e.
          let f : filter (λ k. not (nat_eq k.component number)) (x ∷ xs) ≡ x ∷ filter (λ k. not (nat_eq k.component number)) xs = rw e refl in
          rw f (elim (same_key key x) as (λ b. (b || has_key key xs) ≡ true → (b || has_key key (filter (λ k. not (nat_eq k.component number)) xs)) ≡ true) [ true ↦ λ t. refl | false ↦ λ t. i t ] h)
    ] refl

-- ---- what the refusal's answer tells

pub client_in : (headers : Seen) (c : Component) → free_refusal headers c ≡ None → c.client_out ≡ false
client_in headers c h =
    let a = (passed _ errors.IncorrectStateOperation None h).0 in
    let b = not_either (not (is_loaded c.state || is_invalid c.state)) _ a in
    let d = not_either (is_some c.pending) _ b.1 in
    let e = not_either (not (each_port c (has_no_header headers))) _ d.1 in
    let f = not_either (list_any is_joined (ports_of c)) _ e.1 in
    let h = not_either (is_some c.work) _ f.1 in
    (not_either c.client_out false h.1).0

pub some_client : {A : Type 0} (o : Option A) → is_none o ≡ false → IsSome o
some_client None e = absurd cc
some_client (Some x) e = refl

no_header_at : (w : World) (i : ℕ) (c : Component) (key : PortKey) → Sound w → slice_get w.components i ≡ Some c → free_refusal (look w).headers c ≡ None → number_of c ≡ key.component
    → (o : Option Port) → port_of c key.port ≡ o → (seen w.headers).count (is_for key) ≡ 0
no_header_at w i c key S t h n None e = none_made w key S (port_at_is w.numbered i key w.components c S.rising t n ∙ e)
no_header_at w i c key S t h n (Some p) e =
    let u = all_pass (has_no_header (look w).headers) (ports_of c) key.port p (free_handle_passes (look w).headers c h).0 e in
    let k : p.key ≡ key = (port_parts c key.port p e).key ∙ ap (λ (m : ℕ). record { component = m; port = key.port }) n in
    subst (λ (x : PortKey). (seen w.headers).count (is_for x) ≡ 0) k (eqb-true ((seen w.headers).count (is_for p.key)) 0 u)

module _ {C : Type 0} (progress : C → Progress) (g : Entries C) (i : ℕ) (e : Entry C) (W : SoundWorld (kept progress g)) (at : slice_get g.entries i ≡ Some e) (ok : free_refusal (look_of g).headers (component_of e) ≡ None) where
  here : slice_get W.world.components i ≡ Some (component_of e)
  here = ap (λ (l : Look). slice_get l.components i) W.stands.looks ∙ there progress g i e at

  passes : free_refusal (look W.world).headers (component_of e) ≡ None
  passes = subst (λ (l : Look). free_refusal l.headers (component_of e) ≡ None) (sym W.stands.looks) ok

  pub leaves_no_header : IsUnmade (number_of (component_of e)) (stocked g.stock)
  leaves_no_header key p n =
      let hs : seen W.world.headers ≡ (stocked g.stock).headers = ap (λ (l : Look). l.headers) W.stands.looks in
      ap (λ (x : Seen). x.count (is_for key)) (sym hs) ∙ no_header_at W.world i (component_of e) key W.sound here passes (sym n) (port_of (component_of e) key.port) refl

  pub leaves_no_note : header_notes e.queues ≡ 0
  leaves_no_note = notes_empty W.world i (component_of e) W.sound here passes

  pub only : IsOnly i (component_of e) (components_of g.entries)
  only j d at_j apart =
      let cs : W.world.components ≡ components_of g.entries = ap (λ (l : Look). l.components) W.stands.looks in
      apart_numbers W.world.numbered j i W.world.components d (component_of e) W.sound.rising (ap (λ (xs : List Component). slice_get xs j) cs ∙ at_j) here apart

  kept_left : (t : StockKept) → stocked t ≡ removed (number_of (component_of e)) (stocked g.stock)
      → kept progress (record { entries = remove g.entries i; stock = t; units = g.units; waits = g.waits; numbered = g.numbered }) ≡ with_removed i (noticed_in (remove g.entries i)) (kept progress g)
  kept_left t q =
      let cs : components_of (remove g.entries i) ≡ remove (components_of g.entries) i = map_remove component_of g.entries i in
      let cl : map (progress_at progress) (remove g.entries i) ≡ remove (map (progress_at progress) g.entries) i = map_remove (progress_at progress) g.entries i in
      λ j. record {
        looks = record { key = (q j).key; components = cs j; headers = (q j).headers; units = g.units; waits = g.waits; numbered = g.numbered; made = (q j).next };
        clients = cl j;
        loads = (q j).loads;
        noticed = noticed_in (remove g.entries i);
        parts = [];
      }

  pub steps_left : (t : StockKept) → stocked t ≡ removed (number_of (component_of e)) (stocked g.stock)
      → StepsBare (kept progress g) (kept progress (record { entries = remove g.entries i; stock = t; units = g.units; waits = g.waits; numbered = g.numbered })) (λ w v. v ≡ without_component i (component_of e) w)
  steps_left t q =
      subst (λ (k : Kept). StepsBare (kept progress g) k (λ w v. v ≡ without_component i (component_of e) w)) (sym (kept_left t q))
      (lift_removed (kept progress g) i (component_of e) (noticed_in (remove g.entries i)) (there progress g i e at) only (λ P A. held_removed held_by P g.entries i A))

  pub worlds_left : (t : StockKept) → stocked t ≡ removed (number_of (component_of e)) (stocked g.stock) → SoundWorld (kept progress (record { entries = remove g.entries i; stock = t; units = g.units; waits = g.waits; numbered = g.numbered }))
  worlds_left t q =
      next_world (kept progress g) (kept progress (record { entries = remove g.entries i; stock = t; units = g.units; waits = g.waits; numbered = g.numbered })) (λ w v. v ≡ without_component i (component_of e) w) W (steps_left t q)
      (λ w v S f sound.
      let h : slice_get w.components i ≡ Some (component_of e) = ap (λ (l : Look). slice_get l.components i) S.looks ∙ there progress g i e at in
      let r : free_refusal (look w).headers (component_of e) ≡ None = subst (λ (l : Look). free_refusal l.headers (component_of e) ≡ None) (sym S.looks) ok in
      subst Sound (sym f) (sound_removed w i (component_of e) sound h r))

  pub ports_left : (t : Stocked) → t ≡ removed (number_of (component_of e)) (stocked g.stock) → HasPorts g.entries (stocked g.stock) g.numbered → HasPorts (remove g.entries i) t g.numbered
  ports_left t q P = subst (λ (s : Stocked). HasPorts (remove g.entries i) s g.numbered) (sym q) (record {
    there = λ j x at_j port b.
        let was = at_remove g.entries i j x at_j in
        let apart : number_of (component_of x) ≢ number_of (component_of e) = only was.0 (component_of x) (there progress g was.0 x was.2) was.1 in
        has_filtered (record { component = number_of (component_of x); port = port }) (number_of (component_of e)) (stocked g.stock).ports apart (P.there was.0 x was.2 port b);
    below = All-filter (λ key. not (nat_eq key.component (number_of (component_of e)))) (λ key. key.component < g.numbered) (stocked g.stock).ports P.below;
  })
