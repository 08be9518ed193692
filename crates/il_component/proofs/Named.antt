-- The ports of a component, by their numbers.
use Rattle.std.proofs.Common.{◌≡◌, ℕ, zero, suc, ◌+◌, ◌≤◌, ◌<◌, Bool, true, false, List, [], ◌∷◌, length, set, sum_by, slice_get, get_or, Option, Some, None, is_none, nat_le, nat_eq, if◌then◌else◌, MatchOption, refl, sym, ◌∙◌, ap, subst, arith, length-set}
use Rattle.std.proofs.lemmas.Bool.Decides.{nat_tests}
use Rattle.std.proofs.lemmas.List.Sums.{sum_by-set}
use Rattle.std.proofs.lemmas.Option.{slice_get-get_or}
use Rattle.omx_types.specs.declared.command.PortSel.{PortSel}
use Rattle.il_machine.specs.declared.port.PortSetting.{PortSetting}
use Rattle.il_machine.specs.declared.port.Port.{Port}
use Rattle.il_machine.specs.declared.port.PortState.{PortState}
use Rattle.il_machine.specs.declared.port.Link.{Link}
use Rattle.il_machine.specs.declared.port.Mode.{Mode}
use Rattle.il_machine.specs.declared.port.Mode.TheVariants.{Steady}
use Rattle.std.proofs.lemmas.List.{set-get_or}
use Rattle.il_machine.specs.World.{Component, number_of, ports_from, port_of, with_port}
use Rattle.il_machine.specs.Room.{is_by_client, port_reserve, work_reserve}
use Rattle.il_machine.specs.Commands.{busy_port}
use Rattle.il_machine.specs.Due.{unheld}
use Rattle.il_machine.specs.Parameters.{unheld_at, with_value}
use Rattle.omx_types.specs.declared.param.Param.{Param}
use Rattle.omx_types.specs.declared.param.ParamKey.{ParamKey}
use Rattle.il_machine.proofs.Joined.{joined_past, port_there}
use Rattle.il_machine.specs.Settings.{Settings, IsWhole, with_setting, default_setting, changed_by}
use Rattle.il_machine.specs.Kinds.{ports_in}
use Rattle.il_machine.specs.Lists.{holds_at}
use Rattle.il_machine.specs.Headers.{weight}
use Rattle.il_component.specs.Entries.{Entry, IsFit, component_of}
use Rattle.il_component.specs.Places.{loses}
use Rattle.il_component.specs.PortChanges.{busy_among, at_port, with_link, let_go_by}
use Rattle.il_component.proofs.Fit.{kept_costs}

-- ---- which ports there are

there_from : (number index i : ℕ) (ss : List PortSetting) (ps : List PortState) → length ss ≡ length ps → i < length ss → is_none (slice_get (ports_from number index ss ps) i) ≡ false
there_from number index i [] ps e b = absurd (omega arith)
there_from number index i (s ∷ ss) [] e b = absurd (omega arith)
there_from number index zero (s ∷ ss) (p ∷ ps) e b = refl
there_from number index (suc i) (s ∷ ss) (p ∷ ps) e b = there_from number (index + 1) i ss ps (omega arith) (omega arith)

pub is_missing : (c : Component) (n i : ℕ) → length c.settings.ports ≡ n → length c.ports ≡ n → nat_le n i ≡ is_none (port_of c i)
is_missing c n i a b = elim (nat_le n i) as (λ t. nat_le n i ≡ t → t ≡ is_none (port_of c i)) [
  | true ↦ λ e. let h : n ≤ i = grind (arith, nat_tests) in sym (ap is_none (joined_past _ 0 i c.settings.ports c.ports (a ∙ sym b) (omega arith)))
  | false ↦ λ e. let h : i < n = grind (arith, nat_tests) in sym (there_from _ 0 i c.settings.ports c.ports (a ∙ sym b) (omega arith))
] refl

-- ---- the least busy port

pub busy_is : (number index : ℕ) (sel : PortSel) (test : PortState → Bool) (ss : List PortSetting) (ps : List PortState) → length ss ≡ length ps → busy_among index sel test ps ≡ busy_port sel test (ports_from number index ss ps)
busy_is number index sel test [] [] e = refl
busy_is number index sel test [] (p ∷ ps) e = absurd (omega arith)
busy_is number index sel test (s ∷ ss) [] e = absurd (omega arith)
busy_is number index sel test (s ∷ ss) (p ∷ ps) e = rw (busy_is number (index + 1) sel test ss ps (omega arith)) refl

-- ---- a port's link

pub at_port_set : (i : ℕ) (change : PortState → PortState) (ps : List PortState) (d : PortState) → i < length ps → at_port i change ps ≡ set ps i (change (get_or ps i d))
at_port_set i change [] d b = absurd (omega arith)
at_port_set zero change (p ∷ ps) d b = refl
at_port_set (suc i) change (p ∷ ps) d b = ap (λ (qs : List PortState). p ∷ qs) (at_port_set i change ps d (omega arith))

-- a link takes no place
pub places_linked : (i : ℕ) (link : Option Link) (ps : List PortState) (d : PortState) → i < length ps → sum_by port_reserve (set ps i (with_link link (get_or ps i d))) ≡ sum_by port_reserve ps
places_linked i link ps d b =
    let h = sum_by-set port_reserve ps i (with_link link (get_or ps i d)) d b in
    let e : port_reserve (with_link link (get_or ps i d)) ≡ port_reserve (get_or ps i d) = refl in
    omega arith

-- the port's state with another link, where the old state is the one that is read
pub at_port_read : (i : ℕ) (link : Option Link) (ps : List PortState) (old : PortState) → i < length ps → old ≡ get_or ps i old → set ps i (with_link link old) ≡ at_port i (with_link link) ps
at_port_read i link ps old b e = ap (λ (x : PortState). set ps i (with_link link x)) e ∙ sym (at_port_set i (with_link link) ps old b)

pub set_whole : (s : Settings) (port : ℕ) (setting : PortSetting) → IsWhole s → IsWhole (with_setting port setting s)
set_whole s port setting W = record { sized = W.sized; ports = length-set s.ports port setting ∙ W.ports; weights = W.weights }

pub linked_fit : {C : Type 0} (e : Entry C) (i : ℕ) (settings : Settings) (link : Option Link) (old : PortState) → IsFit e → i < length e.ports → old ≡ get_or e.ports i old → IsWhole settings → settings.kind ≡ e.settings.kind
    → IsFit (record e { settings = settings; ports = set e.ports i (with_link link old) })
linked_fit e i settings link old F b r W k =
    let q : set e.ports i (with_link link old) ≡ set e.ports i (with_link link (get_or e.ports i old)) = ap (λ (x : PortState). set e.ports i (with_link link x)) r in
    let l : length (set e.ports i (with_link link old)) ≡ length e.ports = length-set e.ports i _ in
    let s : sum_by port_reserve (set e.ports i (with_link link old)) ≡ sum_by port_reserve e.ports = ap (λ (ps : List PortState). sum_by port_reserve ps) q ∙ places_linked i link e.ports old b in
    record {
      whole = W;
      ports = l ∙ (F.ports ∙ ap ports_in (sym k));
      queue_ports = F.queue_ports ∙ ap ports_in (sym k);
      reserve = F.reserve ∙ ap (λ (n : ℕ). weight (holds_at e.pending (λ p. is_by_client p.cause)) + n + work_reserve e.work + weight (loses e.pending e.loss_mark)) (sym s);
      costs = kept_costs (component_of e) (component_of (record e { settings = settings; ports = set e.ports i (with_link link old) })) e.queues.commands (sym l) F.costs;
    }

-- the state that is read at a port is that of the machine's port
pub port_is : {C : Type 0} (e : Entry C) (i : ℕ) (old : PortState) → IsFit e → i < length e.ports → old ≡ get_or e.ports i old
    → (s : PortSetting) × (port_of (component_of e) i ≡ Some (record { key = record { component = number_of (component_of e); port = i }; setting = s; state = old }))
port_is e i old F b r =
    let n : i < length e.settings.ports = subst (λ (k : ℕ). i < k) (F.ports ∙ sym F.whole.ports) b in
    let d = default_setting e.settings.kind true in
    let x : slice_get e.settings.ports i ≡ Some (get_or e.settings.ports i d) = slice_get-get_or e.settings.ports i d n in
    let y : slice_get e.ports i ≡ Some old = slice_get-get_or e.ports i old b ∙ ap Some (sym r) in
    (get_or e.settings.ports i d, port_there (component_of e) i (get_or e.settings.ports i d) old x y)

-- what holds of the machine's port holds of what is read
pub at_port_is : {C : Type 0} (P : Port → Type 0) (e : Entry C) (i : ℕ) (old : PortState) → IsFit e → i < length e.ports → old ≡ get_or e.ports i old → MatchOption (port_of (component_of e) i) ⊥ P
    → (s : PortSetting) × (port_of (component_of e) i ≡ Some (record { key = record { component = number_of (component_of e); port = i }; setting = s; state = old })) × P (record { key = record { component = number_of (component_of e); port = i }; setting = s; state = old })
at_port_is P e i old F b r m = let h = port_is e i old F b r in (h.0, h.1, subst (λ (o : Option Port). MatchOption o ⊥ P) h.1 m)

-- a steady port that is made steady stays
pub steady_stays : (c : Component) (i : ℕ) (old : PortState) → old ≡ get_or c.ports i old → old.mode ≡ Steady → c ≡ with_port i (record old { mode = Steady }) c
steady_stays c i old r m =
    let e : record old { mode = Steady } ≡ old = ap (λ (x : Mode). record old { mode = x }) (sym m) in
    let s : set c.ports i (record old { mode = Steady }) ≡ c.ports = ap (λ (x : PortState). set c.ports i x) (e ∙ r) ∙ set-get_or c.ports i old in
    ap (λ (ps : List PortState). record c { ports = ps }) (sym s)

-- ---- a port that is let go

pub places_unheld : (i : ℕ) (ps : List PortState) (old : PortState) → i < length ps → old ≡ get_or ps i old → sum_by port_reserve (set ps i (unheld old)) ≡ sum_by port_reserve ps
places_unheld i ps old b r =
    let h = sum_by-set port_reserve ps i (unheld old) old b in
    let e : port_reserve (unheld old) ≡ port_reserve (get_or ps i old) = ap port_reserve r in
    omega arith

abbrev pub held_state : PortState → PortState
held_state p = record p { held = true }

pub places_held : (i : ℕ) (ps : List PortState) (old : PortState) → i < length ps → old ≡ get_or ps i old → sum_by port_reserve (set ps i (held_state old)) ≡ sum_by port_reserve ps
places_held i ps old b r =
    let h = sum_by-set port_reserve ps i (held_state old) old b in
    let e : port_reserve (held_state old) ≡ port_reserve (get_or ps i old) = ap port_reserve r in
    omega arith

by_port : (P : Component → Type 0) (o : Option Port) (c : Component) → ((p : Port) → P (with_port p.key.port (unheld p.state) c)) → P c → P (unheld_at o c)
by_port P None c f x = x
by_port P (Some p) c f x = f p

by_key : (P : Component → Type 0) (b : Bool) (c d : Component) → P c → P d → P (if b then c else d)
by_key P true c d x y = x
by_key P false c d x y = y

pub settings_stay : (key : ParamKey) (c : Component) → (let_go_by key c).settings ≡ c.settings
settings_stay key c =
    let P : Component → Type 0 = λ d. d.settings ≡ c.settings in
    by_key P (nat_eq key.index 1) (unheld_at (port_of c key.port) c) c (by_port P (port_of c key.port) c (λ p. refl) refl) refl

unheld_with : (o : Option Port) (c : Component) (s : Settings) → record (unheld_at o c) { settings = s } ≡ unheld_at o (record c { settings = s })
unheld_with None c s = refl
unheld_with (Some p) c s = refl

value_if : (b : Bool) (o : Option Port) (c : Component) (s : Settings) → record (if b then unheld_at o c else c) { settings = s } ≡ (if b then unheld_at o (record c { settings = s }) else record c { settings = s })
value_if true o c s = unheld_with o c s
value_if false o c s = refl

pub value_after : (key : ParamKey) (value : Param) (c : Component) → record (let_go_by key c) { settings = changed_by key.port value c.settings } ≡ with_value key value c
value_after key value c = value_if (nat_eq key.index 1) (port_of c key.port) c (changed_by key.port value c.settings)
