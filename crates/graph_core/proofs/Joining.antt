-- Two components of a graph are replaced at once: a tunnel joins or leaves two of their ports.
use Rattle.std.proofs.Common.{◌≡◌, ◌≢◌, ℕ, ◌<◌, ◌≤◌, Bool, true, false, not, ◌||◌, List, set, Option, Some, None, slice_get, get_or, refl, sym, ◌∙◌, ap, subst, arith, length-set}
use Rattle.std.proofs.lemmas.Option.{slice_get_within, get_or_from_slice_get}
use Rattle.omx_types.specs.declared.handle.Handle.{Handle}
use Rattle.omx_types.specs.declared.param.Supplier.{Supplier}
use Rattle.il_machine.specs.declared.answer.Progress.{Progress}
use Rattle.il_machine.specs.declared.port.Link.{Link}
use Rattle.il_machine.specs.declared.port.Port.{Port}
use Rattle.il_machine.specs.declared.port.PortState.{PortState}
use Rattle.il_machine.specs.World.{Component, World, number_of, same_handle, ports_of, port_of, with_component}
use Rattle.il_machine.specs.Look.{look}
use Rattle.il_machine.specs.Tunnels.{joined_to, parted, widened, setup_refusal, drop_refusal, holds_of_both, are_output_and_input, is_joined_with}
use Rattle.stock_laws.specs.Bare.{StepsBare}
use Rattle.il_machine.specs.Sound.{Sound}
use Rattle.std.proofs.lemmas.Bool.Decides.{nat_tests}
use Rattle.il_machine.specs.Kinds.{ports_in}
use Rattle.il_machine.specs.Lists.{holds_at}
use Rattle.il_machine.specs.States.{is_invalid}
use Rattle.il_machine.specs.Headers.{Seen, same_key}
use Rattle.il_machine.specs.Stock.{Stocked}
use Rattle.machine_laws.proofs.Accepting.{passed, not_not}
use Rattle.machine_laws.proofs.Facts.{peer_there}
use Rattle.machine_laws.proofs.Keys.{key_is}
use Rattle.machine_laws.proofs.Lookups.{port_parts}
use Rattle.registry.specs.Handles.{Handles}
use Rattle.port_stock.specs.Kept.{StockKept, stocked}
use Rattle.stock_laws.proofs.Lists.{get_set_other}
use Rattle.stock_laws.proofs.Following.{as_change}
use Rattle.il_component.specs.Entries.{Entry, component_of, KeepsNotices}
use Rattle.il_component.specs.PortChanges.{linked, unlinked, at_port, with_link}
use Rattle.il_component.proofs.Named.{at_port_set}
use Rattle.graph_core.specs.Standing.{IsGraph, SoundWorld}
use Rattle.port_rules.specs.Tests.{HasAllPorts}
use Rattle.graph_core.specs.Entries.{Entries, look_of, kept, changed_at}
use Rattle.graph_core.proofs.Registering.{set_sound}
use Rattle.graph_core.proofs.Replacing.{next_world, steps_changed}
use Rattle.graph_core.proofs.Stepping.{at_world}
use Rattle.graph_core.proofs.Waiters.{waiters_set, few_alike}
use Rattle.graph_core.proofs.Swapping.{IsAlike, ports_swapped}

-- ---- the component's own words are the machine's

port_set : (c : Component) (index : ℕ) (p : Port) (change : PortState → PortState) → port_of c index ≡ Some p → at_port index change c.ports ≡ set c.ports p.key.port (change p.state)
port_set c index p change e =
    let P = port_parts c index p e in
    let b = slice_get_within c.ports index p.state P.state in
    let r : get_or c.ports index p.state ≡ p.state = get_or_from_slice_get c.ports index p.state p.state P.state in
    let k : index ≡ p.key.port = sym (ap (λ x. x.port) P.key) in
    at_port_set index change c.ports p.state b ∙ (ap (λ (s : PortState). set c.ports index (change s)) r ∙ ap (λ (j : ℕ). set c.ports j (change p.state)) k)

pub linked_is : (c : Component) (index : ℕ) (p q : Port) (supplier : Supplier) → port_of c index ≡ Some p → linked index (widened p q) (record { peer = q.key; supplier = supplier }) c ≡ joined_to q supplier p c
linked_is c index p q supplier e =
    let k : index ≡ p.key.port = sym (ap (λ x. x.port) (port_parts c index p e).key) in
    let ps = port_set c index p (with_link (Some (record { peer = q.key; supplier = supplier }))) e in
    let ss : set c.settings.ports index (widened p q) ≡ set c.settings.ports p.key.port (widened p q) = ap (λ (j : ℕ). set c.settings.ports j (widened p q)) k in
    λ i. record c { settings = record c.settings { ports = ss i }; ports = ps i }

pub unlinked_is : (c : Component) (index : ℕ) (p : Port) → port_of c index ≡ Some p → unlinked index c ≡ parted p c
unlinked_is c index p e = ap (λ (ps : List PortState). record c { ports = ps }) (port_set c index p (with_link None) e)

-- ---- two components at once

-- each of two entries is replaced by one of the same handle
pub record AreReplaced {C : Type 0} (es : List (Entry C)) (i j : ℕ) (e d e' d' : Entry C) : Type 0 where
  pub first : slice_get es i ≡ Some e
  pub second : slice_get es j ≡ Some d
  pub apart : i ≢ j
  pub first_kept : KeepsNotices e e'
  pub second_kept : KeepsNotices d d'
  pub first_alike : IsAlike e e'
  pub second_alike : IsAlike d d'

module _ {C : Type 0} (progress : C → Progress) (i j : ℕ) (e d e' d' : Entry C) where
  abbrev pub both_set : World → World
  both_set w = with_component j (component_of d') (with_component i (component_of e') w)

  still : (es : List (Entry C)) → AreReplaced es i j e d e' d' → slice_get (set es i e') j ≡ Some d
  still es R = get_set_other es i j e' (λ q. R.apart (sym q)) ∙ R.second

  pub steps_both : (g : Entries C) → AreReplaced g.entries i j e d e' d' → StepsBare (kept progress g) (kept progress (changed_at j d' (changed_at i e' g))) (λ w v. v ≡ both_set w)
  steps_both g R =
      let a = kept progress g in
      let b = kept progress (changed_at i e' g) in
      let z = kept progress (changed_at j d' (changed_at i e' g)) in
      let F : World → World → Type 0 = λ w v. v ≡ with_component i (component_of e') w in
      let H : World → World → Type 0 = λ w v. v ≡ with_component j (component_of d') w in
      λ w S.
      let x = steps_changed progress g i e e' R.first R.first_kept R.first_alike.part w S in
      let y = steps_changed progress (changed_at i e' g) j d d' (still g.entries R) R.second_kept R.second_alike.part x.0 x.1 in
      (y.0, y.1, y.2 ∙ ap (with_component j (component_of d')) x.2)

  pub graph_both : (es : List (Entry C)) (registry : Handles ℕ) (stock : StockKept) (units waits capacity : ℕ) → IsGraph progress es registry stock units waits capacity → AreReplaced es i j e d e' d'
      → ((w : World) → look w ≡ look_of (record { entries = es; stock = stock; units = units; waits = waits; numbered = registry.given }) → Sound w → Sound (both_set w))
      → IsGraph progress (set (set es i e') j d') registry stock units waits capacity
  graph_both es registry stock units waits capacity G R keeps =
      let g : Entries C = record { entries = es; stock = stock; units = units; waits = waits; numbered = registry.given } in
      record {
        registered = set_sound (set es i e') registry j d d' (set_sound es registry i e e' G.registered R.first R.first_alike.handle) (still es R) R.second_alike.handle;
        roomy = G.roomy;
        few = subst (λ (n : ℕ). n ≤ 32) (sym (length-set (set es i e') j d' ∙ length-set es i e')) G.few;
        ports = ports_swapped (set es i e') (stocked stock) registry.given j d d' (ports_swapped es (stocked stock) registry.given i e e' G.ports R.first R.first_alike) (still es R) R.second_alike;
        numbers = waiters_set (set es i e') j d d' waits waits (still es R) (few_alike waits d d' R.second_alike.pending)
            (waiters_set es i e e' waits waits R.first (few_alike waits e e' R.first_alike.pending) G.numbers);
        worlds = next_world (kept progress g) (kept progress (changed_at j d' (changed_at i e' g))) (λ w v. v ≡ both_set w) G.worlds (steps_both g R) (λ w v s f sound. subst Sound (sym f) (keeps w s.looks sound));
      }

-- ---- what the refusals' answers tell

both_there : (o u : Option Port) (test : Port → Port → Bool) → holds_of_both o u test ≡ true → (p : Port) × (q : Port) × (o ≡ Some p) × (u ≡ Some q) × (test p q ≡ true)
both_there None u test h = absurd cc
both_there (Some p) None test h = absurd cc
both_there (Some p) (Some q) test h = (p, q, refl, refl, h)

-- the two ports are there, at two places
pub record AreEnds {C : Type 0} (i output j input : ℕ) (e d : Entry C) : Type 0 where
  pub first : Port
  pub second : Port
  pub out : port_of (component_of e) output ≡ Some first
  pub inp : port_of (component_of d) input ≡ Some second
  pub apart : i ≢ j

same_itself : (h : Handle) → same_handle h h ≡ true
same_itself h = grind (arith, nat_tests)

same_entry : {C : Type 0} (es : List (Entry C)) (i j : ℕ) (e d : Entry C) → slice_get es i ≡ Some e → slice_get es j ≡ Some d → i ≡ j → e ≡ d
same_entry es i j e d at at' q = let z : Some e ≡ Some d = sym at ∙ (ap (slice_get es) q ∙ at') in cc

pub join_ends : {C : Type 0} (es : List (Entry C)) (headers : Seen) (i output j input : ℕ) (e d : Entry C) → slice_get es i ≡ Some e → slice_get es j ≡ Some d
    → setup_refusal headers (component_of e) (component_of d) (port_of (component_of e) output) (port_of (component_of d) input) ≡ None → AreEnds i output j input e d
join_ends {C} es headers i output j input e d at at' h =
    let c = component_of e in
    let b = component_of d in
    let o = port_of c output in
    let u = port_of b input in
    let x = passed (is_invalid c.state || is_invalid b.state) _ _ h in
    let y = passed (not (holds_of_both o u are_output_and_input)) _ _ x.1 in
    let z = passed (same_handle c.handle b.handle) _ _ y.1 in
    let t = both_there o u are_output_and_input (not_not _ y.0) in
    record {
      first = t.0;
      second = t.1;
      out = t.2;
      inp = t.3;
      apart = λ q.
          let s = same_entry es i j e d at at' q in
          let f : same_handle e.handle d.handle ≡ true = ap (λ (v : Entry C). same_handle v.handle d.handle) s ∙ same_itself d.handle in
          let g : same_handle e.handle d.handle ≡ false = z.0 in
          absurd cc;
    }

linked_with : (o : Option Link) (q : Port) → holds_at o (λ link. same_key link.peer q.key) ≡ true → (link : Link) × (o ≡ Some link) × (link.peer ≡ q.key)
linked_with None q h = absurd cc
linked_with (Some link) q h = (link, refl, key_is link.peer q.key h)

pub part_ends : {C : Type 0} (progress : C → Progress) (g : Entries C) (i output j input : ℕ) (e d : Entry C) → SoundWorld (kept progress g) → slice_get g.entries i ≡ Some e → slice_get g.entries j ≡ Some d
    → drop_refusal (look_of g).headers (port_of (component_of e) output) (port_of (component_of d) input) ≡ None → AreEnds i output j input e d
part_ends {C} progress g i output j input e d W at at' h =
    let c = component_of e in
    let b = component_of d in
    let o = port_of c output in
    let u = port_of b input in
    let x = passed (not (holds_of_both o u are_output_and_input)) _ _ h in
    let y = passed (not (holds_of_both o u is_joined_with)) _ _ x.1 in
    let t = both_there o u is_joined_with (not_not _ y.0) in
    let l = linked_with (t.0).state.link t.1 t.4 in
    let P = peer_there W.world i c output t.0 l.0 W.sound (at_world progress g i e W.world W.stands at) t.2 l.1 in
    let pk : (t.0).key.component ≡ number_of c = ap (λ k. k.component) (port_parts c output t.0 t.2).key in
    let qk : (t.1).key.component ≡ number_of b = ap (λ k. k.component) (port_parts b input t.1 t.3).key in
    let ok : (P.other).port.key.component ≡ (t.1).key.component = ap (λ k. k.component) (P.key ∙ l.2) in
    record {
      first = t.0;
      second = t.1;
      out = t.2;
      inp = t.3;
      apart = λ q.
          let s = same_entry g.entries i j e d at at' q in
          let n : number_of b ≡ number_of c = ap (λ (v : Entry C). number_of (component_of v)) (sym s) in
          (P.joined).apart (ok ∙ (qk ∙ (n ∙ sym pk)));
    }

-- there are as many ports as the kind has
pub port_below : (c : Component) (s : Stocked) (index : ℕ) (p : Port) → HasAllPorts c s → port_of c index ≡ Some p → index < ports_in c.settings.kind
port_below c s index p H e = subst (λ (n : ℕ). index < n) H.many (slice_get_within (ports_of c) index p e)

pub both_changed : {C : Type 0} (progress : C → Progress) (g : Entries C) (i j : ℕ) (e d e' d' : Entry C) (c b : Component) → AreReplaced g.entries i j e d e' d' → component_of e' ≡ c → component_of d' ≡ b
    → StepsBare (kept progress g) (kept progress (changed_at j d' (changed_at i e' g))) (λ w v. v ≡ with_component j b (with_component i c w))
both_changed progress g i j e d e' d' c b R x y =
    as_change (kept progress g) (kept progress (changed_at j d' (changed_at i e' g))) (λ w v. v ≡ both_set progress i j e d e' d' w) (λ w v. v ≡ with_component j b (with_component i c w)) (steps_both progress i j e d e' d' g R)
    (λ w v s f. f ∙ (λ k. with_component j (y k) (with_component i (x k) w)))
