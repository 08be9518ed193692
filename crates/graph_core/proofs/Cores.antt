-- All that is true of what a graph keeps, as its stock, one of its components or two of them change.
use Rattle.std.proofs.Common.{◌≡◌, ◌≢◌, ℕ, List, length, set, Some, slice_get, sym, ◌∙◌, ap}
use Rattle.il_machine.specs.declared.answer.Progress.{Progress}
use Rattle.il_machine.specs.World.{Component, World, with_component}
use Rattle.il_machine.specs.Look.{look}
use Rattle.il_machine.specs.Ports.{IsCalm}
use Rattle.il_machine.specs.Sound.{Sound}
use Rattle.resource_book.specs.Account.{Account}
use Rattle.stock_laws.specs.Bare.{StepsBare}
use Rattle.stock_laws.specs.Parts.{KeepsPart}
use Rattle.stock_laws.proofs.Lists.{get_set_other}
use Rattle.registry.specs.Handles.{Handles}
use Rattle.port_stock.specs.Kept.{StockKept, stocked}
use Rattle.il_component.specs.Entries.{Entry, component_of, KeepsNotices}
use Rattle.graph_core.specs.Booked.{booked, row_for}
use Rattle.graph_core.specs.Clients.{KeepsAllClients}
use Rattle.graph_core.specs.Entries.{Entries, changed_at, components_of, kept, look_of}
use Rattle.graph_core.specs.Marking.{AreMarked}
use Rattle.graph_core.specs.Standing.{IsGraph, SoundWorld}
use Rattle.graph_core.proofs.BookKept.{kept_rows}
use Rattle.graph_core.proofs.Calming.{calm_as, calm_same}
use Rattle.graph_core.proofs.Clients.{clients_set}
use Rattle.graph_core.proofs.Gathered.{gathered}
use Rattle.graph_core.proofs.Joining.{AreReplaced, both_changed, graph_both}
use Rattle.graph_core.proofs.Marking.{marked_set}
use Rattle.graph_core.proofs.SameParts.{part_as}
use Rattle.graph_core.proofs.Stepping.{graph_stocked, graph_with}

module _ {C : Type 0} (progress : C → Progress) where
  -- the invariant of a graph's record
  abbrev pub IsCore : List (Entry C) → Handles ℕ → StockKept → Account → ℕ → ℕ → Type 0
  IsCore es registry stock book marked capacity = IsGraph progress es registry stock book.units book.numbered capacity × AreMarked es marked × (book.rows ≡ booked (components_of es))

  module _ (es : List (Entry C)) (registry : Handles ℕ) (stock : StockKept) (book : Account) (marked capacity : ℕ) (core : IsCore es registry stock book marked capacity) where
    -- the entry of a place and the stock change, but for handles, ports, what is pending, and rows
    pub core_with : (after : StockKept) (i : ℕ) (e d : Entry C) (k : Component) → slice_get es i ≡ Some e → component_of d ≡ k → k.handle ≡ e.handle → k.ports ≡ e.ports → k.pending ≡ e.pending → row_for k ≡ row_for (component_of e)
        → (stocked after).ports ≡ (stocked stock).ports → SoundWorld (kept progress (gathered (set es i d) after book registry.given))
        → IsCore (set es i d) registry after book marked capacity
    core_with after i e d k at is handle ports pending row q W =
        let p : d.ports ≡ e.ports = ap (λ (x : Component). x.ports) is ∙ ports in
        let n : d.pending ≡ e.pending = ap (λ (x : Component). x.pending) is ∙ pending in (
          graph_with progress es registry stock after book.units book.numbered capacity i e d core.0 at (ap (λ (x : Component). x.handle) is ∙ handle) p n q W,
          marked_set es marked i e d core.1 at (calm_same (component_of e) (component_of d) p n),
          kept_rows book es i e d core.2 at (ap row_for is ∙ row),
        )

    -- the stock alone changes, but for its ports
    pub core_stocked : (after : StockKept) → (stocked after).ports ≡ (stocked stock).ports → SoundWorld (kept progress (gathered es after book registry.given)) → IsCore es registry after book marked capacity
    core_stocked after q W = (graph_stocked progress es registry stock after book.units book.numbered capacity core.0 q W, core.1, core.2)

-- ---- a tunnel joins or leaves two ports

-- what of a component stays as one of its ports is joined or left
pub record StaysAlike (c d : Component) : Type 0 where
  pub handle : d.handle ≡ c.handle
  pub ports : length d.ports ≡ length c.ports
  pub pending : d.pending ≡ c.pending
  pub part : KeepsPart c d
  pub row : row_for d ≡ row_for c
  pub calm : IsCalm c → IsCalm d

-- the entry of a component that changes so
pub record Becomes {C : Type 0} (e e' : Entry C) (c : Component) : Type 0 where
  pub is : component_of e' ≡ c
  pub kept : KeepsNotices e e'
  pub alike : StaysAlike (component_of e) c

module _ {C : Type 0} (progress : C → Progress) (i j : ℕ) (e d e' d' : Entry C) (c b : Component) (E : Becomes e e' c) (D : Becomes d d' b) where
  replaced : (es : List (Entry C)) → slice_get es i ≡ Some e → slice_get es j ≡ Some d → i ≢ j → AreReplaced es i j e d e' d'
  replaced es at at' apart = record {
    first = at;
    second = at';
    apart = apart;
    first_kept = E.kept;
    second_kept = D.kept;
    first_alike = record { handle = ap (λ (x : Component). x.handle) E.is ∙ E.alike.handle; ports = ap (λ (x : Component). length x.ports) E.is ∙ E.alike.ports; pending = ap (λ (x : Component). x.pending) E.is ∙ E.alike.pending; part = part_as (component_of e) (component_of e') c E.is E.alike.part };
    second_alike = record { handle = ap (λ (x : Component). x.handle) D.is ∙ D.alike.handle; ports = ap (λ (x : Component). length x.ports) D.is ∙ D.alike.ports; pending = ap (λ (x : Component). x.pending) D.is ∙ D.alike.pending; part = part_as (component_of d) (component_of d') b D.is D.alike.part };
  }

  pub core_both : (es : List (Entry C)) (registry : Handles ℕ) (stock : StockKept) (book : Account) (marked capacity : ℕ) → IsCore progress es registry stock book marked capacity
      → slice_get es i ≡ Some e → slice_get es j ≡ Some d → i ≢ j
      → ((w : World) → look w ≡ look_of (gathered es stock book registry.given) → Sound w → Sound (with_component j b (with_component i c w)))
      → IsCore progress (set (set es i e') j d') registry stock book marked capacity
  core_both es registry stock book marked capacity core at at' apart keeps =
      let still : slice_get (set es i e') j ≡ Some d = get_set_other es i j e' (λ q. apart (sym q)) ∙ at' in (
        graph_both progress i j e d e' d' es registry stock book.units book.numbered capacity core.0 (replaced es at at' apart)
            (λ w l S. rw (E.is, D.is) (keeps w l S)),
        marked_set (set es i e') marked j d d' (marked_set es marked i e e' core.1 at (calm_as (component_of e) (component_of e') c E.is E.alike.calm)) still (calm_as (component_of d) (component_of d') b D.is D.alike.calm),
        kept_rows book (set es i e') j d d' (kept_rows book es i e e' core.2 at (ap row_for E.is ∙ E.alike.row)) still (ap row_for D.is ∙ D.alike.row),
      )

  pub steps_to_both : (g : Entries C) → slice_get g.entries i ≡ Some e → slice_get g.entries j ≡ Some d → i ≢ j
      → StepsBare (kept progress g) (kept progress (changed_at j d' (changed_at i e' g))) (λ w v. v ≡ with_component j b (with_component i c w))
  steps_to_both g at at' apart = both_changed progress g i j e d e' d' c b (replaced g.entries at at' apart) E.is D.is

  pub clients_both : (g : Entries C) → slice_get g.entries i ≡ Some e → slice_get g.entries j ≡ Some d → i ≢ j → KeepsAllClients g (changed_at j d' (changed_at i e' g))
  clients_both g at at' apart k =
      let es = g.entries in
      let still : slice_get (set es i e') j ≡ Some d = get_set_other es i j e' (λ q. apart (sym q)) ∙ at' in
      clients_set (set es i e') j d d' still (ap (λ (x : Component). x.handle) D.is ∙ D.alike.handle) D.kept.client k
      ∙ clients_set es i e e' at (ap (λ (x : Component). x.handle) E.is ∙ E.alike.handle) E.kept.client k
