-- What acts and happenings leave of a component whose work is out.
use Rattle.std.proofs.Common.{◌≡◌, ℕ, zero, suc, ◌+◌, Bool, true, false, not, ◌&&◌, ◌||◌, nat_eq, List, [], ◌∷◌, ◌++◌, set, slice_get, Option, Some, None, is_some, refl, sym, ◌∙◌, ap, eqb-true}
use Rattle.std.proofs.lemmas.Option.{get_or_from_slice_get}
use Rattle.omx_types.specs.declared.state.State.{State}
use Rattle.omx_types.specs.declared.state.State.TheVariants.{Invalid, Loaded, Idle, Executing, Pause, WaitForResources}
use Rattle.omx_types.specs.declared.command.Command.{Command}
use Rattle.omx_types.specs.declared.command.Command.TheVariants as commands
use Rattle.omx_types.specs.declared.command.PortSel.{PortSel}
use Rattle.omx_types.specs.declared.command.Event.{Event}
use Rattle.omx_types.specs.declared.command.Event.TheVariants.{Error}
use Rattle.omx_types.specs.declared.command.Note.{Note}
use Rattle.omx_types.specs.declared.error.OmxError.{OmxError}
use Rattle.omx_types.specs.declared.error.OmxError.TheVariants as errors
use Rattle.omx_types.specs.declared.format.Format.{Format}
use Rattle.omx_types.specs.declared.format.Format.TheVariants.{Pcm, Alaw, Mulaw, Auto}
use Rattle.omx_types.specs.declared.param.Param.{Param}
use Rattle.omx_types.specs.declared.param.Param.TheVariants as params
use Rattle.omx_types.specs.declared.param.ParamKey.{ParamKey}
use Rattle.omx_types.specs.declared.param.PortDefinition.{PortDefinition}
use Rattle.omx_types.specs.declared.param.Supplier.{Supplier}
use Rattle.il_machine.specs.declared.answer.Pending.{Pending}
use Rattle.il_machine.specs.declared.port.Port.{Port}
use Rattle.il_machine.specs.declared.port.PortSetting.{PortSetting}
use Rattle.il_machine.specs.declared.port.PortState.{PortState}
use Rattle.il_machine.specs.States.{is_invalid, is_down}
use Rattle.il_machine.specs.Lists.{holds_at}
use Rattle.il_machine.specs.Kinds.{is_auto, is_input}
use Rattle.il_machine.specs.Settings.{Settings, formats_of, same_format, setting_at, changed_by, is_v112, is_index_of, is_port_of, is_value_of, is_good_value, is_supported}
use Rattle.il_machine.specs.World.{Component, noted, told, port_of, with_port}
use Rattle.il_machine.specs.Headers.{Seen}
use Rattle.il_machine.specs.Look.{Look}
use Rattle.il_machine.specs.Room.{is_by_client}
use Rattle.il_machine.specs.Due.{completed_for, lost, lost_by, restarted, with_part, unheld, all_given_back, reached, arrived, arrived_at, all_told}
use Rattle.il_machine.specs.Parameters.{is_settable, keeps_format, is_off_file, is_format_fixed, is_format_free, set_parameter_refusal, set_config_refusal, unheld_at, with_value}
use Rattle.il_machine.specs.Tunnels.{widened, joined_to, parted}
use Rattle.il_machine.specs.Commands.{calmed, invalidated, is_at_once, sent, begun, state_fault, is_selected, selected_from, with_selected, flushing, disabling, enabling, awaiting_mark, carried_out, run_front}
use Rattle.il_machine.specs.Buffers.{is_unpopulating, unpopulated}
use Rattle.il_machine.specs.Notes.{first_taken, back_in}
use Rattle.il_machine.specs.Units.{granted_units, preempted_units}
use Rattle.machine_laws.proofs.Finding.{either}
use Rattle.machine_laws.proofs.Every.{at_place, from_places}
use Rattle.machine_laws.proofs.Lookups.{port_parts}
use Rattle.machine_laws.proofs.Arriving.{state_there}
use Rattle.machine_laws.proofs.Accepting.{passed, not_either, not_not, both_of, is_not}
use Rattle.machine_laws.proofs.Granting.{preempted_by}
use Rattle.history_laws.specs.Works.{AreKnown}
use Rattle.history_laws.proofs.Out.{IsStillOut, still_itself, still_on, still_as, held_set, held_in_place, held_map}

still_plain : (c d : Component) → d.work ≡ c.work → d.settings ≡ c.settings → d.file ≡ c.file → d.part.failed ≡ c.part.failed → d.ports ≡ c.ports → IsStillOut c d
still_plain c d w s f q p = still_as c d w (ap (λ (x : Settings). x.kind) s) f q (ap (λ (x : Settings). formats_of x.ports) s) (record { stay = λ A. rw p A })

-- ---- commands

still_told : (events : List Event) (c : Component) → IsStillOut c (all_told events c)
still_told [] c = still_itself c
still_told (event ∷ events) c = still_on c (told event c) (all_told events (told event c)) (still_plain c (told event c) refl refl refl refl refl) (still_told events (told event c))

still_invalid : (c : Component) → IsStillOut c (told (Error errors.InvalidState) (invalidated c))
still_invalid c = still_as c (told (Error errors.InvalidState) (invalidated c)) refl refl refl refl refl (held_map calmed (λ p e. e) c.ports)

pub still_sent : (command : Command) (c : Component) → IsStillOut c (sent command c)
still_sent command c = either (is_at_once command) (λ t. rw t (still_invalid c)) (λ f. rw f (still_plain c (record c { commands = c.commands ++ command ∷ [] }) refl refl refl refl refl))

selected_held : (index : ℕ) (sel : PortSel) (change : PortState → PortState) (ps : List PortState) → ((p : PortState) → (change p).held ≡ p.held) → (j : ℕ) (p : PortState) → slice_get (selected_from index sel change ps) j ≡ Some p
    → (x : PortState) × (slice_get ps j ≡ Some x) × (p.held ≡ x.held)
selected_held index sel change [] h j p e = absurd cc
selected_held index sel change (x ∷ ps) h zero p e = either (is_selected sel index)
    (λ t. let s : Some (change x) ≡ Some p = rw t at e in let q : change x ≡ p = cc in (x, refl, ap (λ (y : PortState). y.held) (sym q) ∙ h x))
    (λ f. let s : Some x ≡ Some p = rw f at e in let q : x ≡ p = cc in (x, refl, ap (λ (y : PortState). y.held) (sym q)))
selected_held index sel change (x ∷ ps) h (suc j) p e = selected_held (index + 1) sel change ps h j p e

still_selected : (sel : PortSel) (change : PortState → PortState) (c : Component) → ((p : PortState) → (change p).held ≡ p.held) → IsStillOut c (with_selected sel change c)
still_selected sel change c h = still_as c (with_selected sel change c) refl refl refl refl refl (record {
  stay = λ A. from_places (λ p. p.held ≡ false) (selected_from 0 sel change c.ports) (λ j p e. let x = selected_held 0 sel change c.ports h j p e in x.2 ∙ at_place (λ y. y.held ≡ false) c.ports j x.0 A x.1);
})

still_begun : (fault : Option OmxError) (target : State) (c : Component) → IsStillOut c (begun fault target c)
still_begun (Some error) target c = still_plain c (told (Error error) c) refl refl refl refl refl
still_begun None target c = still_plain c (begun None target c) refl refl refl refl refl

still_carried : (l : Look) (command : Command) (c : Component) → IsStillOut c (carried_out l command c)
still_carried l (commands.StateSet target) c = still_begun (state_fault l c target) target c
still_carried l (commands.Flush sel) c = still_selected sel flushing c (λ p. refl)
still_carried l (commands.PortDisable sel) c = still_selected sel disabling c (λ p. refl)
still_carried l (commands.PortEnable sel) c = still_selected sel enabling c (λ p. refl)
still_carried l (commands.MarkBuffer port target value) c = still_selected _ (awaiting_mark target value) c (λ p. refl)

pub still_run : (l : Look) (cs : List Command) (c : Component) → IsStillOut c (run_front l cs c)
still_run l [] c = still_itself c
still_run l (command ∷ rest) c =
    let d : Component = record c { commands = rest } in
    still_on c d (carried_out l command d) (still_plain c d refl refl refl refl refl) (still_carried l command d)

-- ---- units, headers and notes

pub still_granted : (c : Component) → IsStillOut c (granted_units c)
still_granted c = still_plain c (granted_units c) refl refl refl refl refl

pub still_preempted : (c : Component) → IsStillOut c (preempted_units c)
still_preempted c = preempted_by (IsStillOut c) c (λ f. still_plain c (lost c) refl refl refl refl refl) (λ t g. still_plain c _ refl refl refl refl refl) (λ t g. still_plain c _ refl refl refl refl refl)

pub still_unpopulated : (p : Port) (c : Component) → IsStillOut c (unpopulated p c)
still_unpopulated p c = either (is_unpopulating c p) (λ t. rw t (still_plain c (told (Error errors.PortUnpopulated) c) refl refl refl refl refl)) (λ f. rw f (still_itself c))

pub still_noted : (note : Note) (c : Component) → IsStillOut c (noted note c)
still_noted note c = still_plain c (noted note c) refl refl refl refl refl

pub still_back : (c : Component) → IsStillOut c (back_in c)
still_back c = still_plain c (back_in c) refl refl refl refl refl

pub still_taken : (c : Component) → IsStillOut c (first_taken c)
still_taken c = still_plain c (first_taken c) refl refl refl refl refl

-- ---- ports

pub still_with_port : (k : ℕ) (new old : PortState) (c : Component) → slice_get c.ports k ≡ Some old → new.held ≡ old.held → IsStillOut c (with_port k new c)
still_with_port k new old c t e = still_as c (with_port k new c) refl refl refl refl refl (held_in_place c.ports k new old t e)

-- another setting of a port, of the same format
formats_set : (ss : List PortSetting) (k : ℕ) (new : PortSetting) → ((old : PortSetting) → slice_get ss k ≡ Some old → new.definition.format ≡ old.definition.format) → formats_of (set ss k new) ≡ formats_of ss
formats_set [] k new h = refl
formats_set (s ∷ ss) zero new h = let e = h s refl in cc
formats_set (s ∷ ss) (suc k) new h = let i = formats_set ss k new h in cc

pub still_joined : (q : Port) (supplier : Supplier) (index : ℕ) (p : Port) (c : Component) → port_of c index ≡ Some p → IsStillOut c (joined_to q supplier p c)
still_joined q supplier index p c e =
    let is = port_parts c index p e in
    let k : ℕ = p.key.port in
    let n : k ≡ index = ap (λ y. y.port) is.key in
    let f : formats_of (set c.settings.ports k (widened p q)) ≡ formats_of c.settings.ports = formats_set c.settings.ports k (widened p q) (λ old t.
    let a : slice_get c.settings.ports k ≡ Some p.setting = rw n is.setting in
    let b : Some old ≡ Some p.setting = sym t ∙ a in
    let s : old ≡ p.setting = cc in
    ap (λ (y : PortSetting). y.definition.format) (sym s)) in
    still_as c (joined_to q supplier p c) refl refl refl refl f (held_in_place c.ports k _ p.state (state_there c index p e) refl)

pub still_parted : (index : ℕ) (p : Port) (c : Component) → port_of c index ≡ Some p → IsStillOut c (parted p c)
still_parted index p c e = still_with_port p.key.port _ p.state c (state_there c index p e) refl

-- ---- parameters

pub format_is : (f g : Format) → same_format f g ≡ true → f ≡ g
format_is (Pcm r n) (Pcm s m) h = let p = both_of (nat_eq r s) (nat_eq n m) h in let a : r ≡ s = eqb-true _ _ p.0 in let b : n ≡ m = eqb-true _ _ p.1 in λ i. Pcm (a i) (b i)
format_is (Alaw r n) (Alaw s m) h = let p = both_of (nat_eq r s) (nat_eq n m) h in let a : r ≡ s = eqb-true _ _ p.0 in let b : n ≡ m = eqb-true _ _ p.1 in λ i. Alaw (a i) (b i)
format_is (Mulaw r n) (Mulaw s m) h = let p = both_of (nat_eq r s) (nat_eq n m) h in let a : r ≡ s = eqb-true _ _ p.0 in let b : n ≡ m = eqb-true _ _ p.1 in λ i. Mulaw (a i) (b i)
format_is Auto Auto h = refl
format_is (Pcm r n) (Alaw s m) h = absurd cc
format_is (Pcm r n) (Mulaw s m) h = absurd cc
format_is (Pcm r n) Auto h = absurd cc
format_is (Alaw r n) (Pcm s m) h = absurd cc
format_is (Alaw r n) (Mulaw s m) h = absurd cc
format_is (Alaw r n) Auto h = absurd cc
format_is (Mulaw r n) (Pcm s m) h = absurd cc
format_is (Mulaw r n) (Alaw s m) h = absurd cc
format_is (Mulaw r n) Auto h = absurd cc
format_is Auto (Pcm s m) h = absurd cc
format_is Auto (Alaw s m) h = absurd cc
format_is Auto (Mulaw s m) h = absurd cc

supported : (headers : Seen) (c : Component) (key : ParamKey) (value : Param) → set_parameter_refusal headers c key value ≡ None → (is_invalid c.state ≡ false) × (is_supported c.settings key.port (is_format_free c key.port value) value ≡ true)
supported headers c key value h =
    let s = c.settings in
    let a = passed (is_invalid c.state) _ _ h in
    let b = passed (not (is_v112 key.version)) _ _ a.1 in
    let d = passed (not (is_index_of s.kind false key.index)) _ _ b.1 in
    let e = passed (not (is_port_of s.kind key)) _ _ d.1 in
    let f = passed (not (is_value_of key.index value) || not (is_good_value (is_input s.kind key.port) value)) _ _ e.1 in
    let g = passed (not (is_supported s key.port (is_format_free c key.port value) value)) _ _ f.1 in
    (a.0, not_not _ g.0)

free_there : (o : Option Port) (test : Port → Bool) → holds_at o (λ p. not (test p)) ≡ true → (p : Port) × (o ≡ Some p) × (test p ≡ false)
free_there None test h = absurd cc
free_there (Some p) test h = (p, refl, is_not (test p) h)

mapped_format : (j : ℕ) (ss : List PortSetting) (s : PortSetting) → slice_get ss j ≡ Some s → slice_get (formats_of ss) j ≡ Some s.definition.format
mapped_format j [] s e = absurd cc
mapped_format zero (x ∷ ss) s e = let q : x ≡ s = cc in ap (λ (y : PortSetting). Some y.definition.format) q
mapped_format (suc j) (x ∷ ss) s e = mapped_format j ss s e

and_true : (a b c : Bool) → a ≡ true → b ≡ true → c ≡ true → (a && b && c) ≡ true
and_true a b c x y z = rw (x, y, z) refl

or_true : (a b : Bool) → b ≡ true → (a || b) ≡ true
or_true true b h = refl
or_true false b h = h

keeps_there : (c : Component) (p : Port) → p.state.held ≡ false → is_auto p.setting.definition.format ≡ false → is_settable c ≡ false → keeps_format c p ≡ true
keeps_there c p h a s = and_true (not p.state.held) (not (is_auto p.setting.definition.format)) (is_some c.file || not (is_settable c)) (rw h refl) (rw a refl) (or_true (is_some c.file) (not (is_settable c)) (rw s refl))

-- a port of a known format, whose component isn't settable, keeps it
fixed_there : (c : Component) (p : Port) (d : PortDefinition) → is_format_fixed c p d ≡ false → keeps_format c p ≡ true → d.format ≡ p.setting.definition.format
fixed_there c p d h k =
    let a = not_either (is_off_file c p d.format) _ h in
    let b = not_either (keeps_format c p && not (same_format d.format p.setting.definition.format)) _ a.1 in
    let e : not (same_format d.format p.setting.definition.format) ≡ false = rw k at b.0 in
    format_is d.format p.setting.definition.format (not_not _ e)

kept_definition : (c : Component) (port : ℕ) (d : PortDefinition) → is_format_free c port (params.Port d) ≡ true → is_settable c ≡ false → AreKnown c → formats_of (changed_by port (params.Port d) c.settings).ports ≡ formats_of c.settings.ports
kept_definition c port d f s K =
    let x = free_there (port_of c port) (λ p. is_format_fixed c p d) f in
    let p : Port = x.0 in
    let is = port_parts c port p x.1 in
    let held : p.state.held ≡ false = at_place (λ y. y.held ≡ false) c.ports port p.state K.held is.state in
    let auto : is_auto p.setting.definition.format ≡ false = at_place (λ y. is_auto y ≡ false) (formats_of c.settings.ports) port p.setting.definition.format K.formats (mapped_format port c.settings.ports p.setting is.setting) in
    let e = fixed_there c p d x.2 (keeps_there c p held auto s) in
    formats_set c.settings.ports port _ (λ old t.
    let b : Some old ≡ Some p.setting = sym t ∙ is.setting in
    let q : old ≡ p.setting = cc in
    e ∙ ap (λ (y : PortSetting). y.definition.format) (sym q))

free_of : (s : Settings) (port : ℕ) (free : Bool) (d : PortDefinition) → is_supported s port free (params.Port d) ≡ true → free ≡ true
free_of s port free d h = (both_of _ free h).1

kept_supplier : (s : Settings) (port : ℕ) (x : Supplier) → formats_of (changed_by port (params.Supplier x) s).ports ≡ formats_of s.ports
kept_supplier s port x = formats_set s.ports port (record (setting_at s port) { supplier = x }) (λ old t. ap (λ (y : PortSetting). y.definition.format) (get_or_from_slice_get s.ports port old _ t))

kept_value : (headers : Seen) (c : Component) (key : ParamKey) (value : Param) → set_parameter_refusal headers c key value ≡ None → is_settable c ≡ false → AreKnown c → formats_of (changed_by key.port value c.settings).ports ≡ formats_of c.settings.ports
kept_value headers c key (params.Port d) h s K = kept_definition c key.port d (free_of c.settings key.port _ d (supported headers c key (params.Port d) h).1) s K
kept_value headers c key (params.Supplier x) h s K = kept_supplier c.settings key.port x
kept_value headers c key (params.Priority n) h s K = refl
kept_value headers c key (params.Gain n) h s K = refl
kept_value headers c key (params.Weight n) h s K = refl

kind_kept : (port : ℕ) (value : Param) (s : Settings) → (changed_by port value s).kind ≡ s.kind
kind_kept port (params.Port d) s = refl
kind_kept port (params.Supplier x) s = refl
kind_kept port (params.Priority n) s = refl
kind_kept port (params.Gain n) s = refl
kind_kept port (params.Weight n) s = refl

still_unheld : (o : Option Port) (d : Component) → IsStillOut d (unheld_at o d)
still_unheld None d = still_itself d
still_unheld (Some p) d = still_as d (with_port p.key.port (record p.state { held = false }) d) refl refl refl refl refl (held_set d.ports p.key.port _ refl)

still_valued : (c : Component) (key : ParamKey) (value : Param) → (AreKnown c → formats_of (changed_by key.port value c.settings).ports ≡ formats_of c.settings.ports) → IsStillOut c (with_value key value c)
still_valued c key value h =
    let d : Component = record c { settings = changed_by key.port value c.settings } in
    let A : IsStillOut c d = record { work = refl; kind = kind_kept key.port value c.settings; file = refl; failed = refl; known = λ K. (h K, record { held = K.held; formats = rw (h K) K.formats }) } in
    let B : IsStillOut c (unheld_at (port_of c key.port) d) = still_on c d (unheld_at (port_of c key.port) d) A (still_unheld (port_of c key.port) d) in
    either (nat_eq key.index 1) (λ t. rw t B) (λ f. rw f A)

-- a component with its work out isn't settable
pub still_set : (headers : Seen) (c : Component) (key : ParamKey) (value : Param) → set_parameter_refusal headers c key value ≡ None → is_settable c ≡ false → IsStillOut c (with_value key value c)
still_set headers c key value h s = still_valued c key value (kept_value headers c key value h s)

config_value : (c : Component) (key : ParamKey) (value : Param) → set_config_refusal c key value ≡ None → (is_index_of c.settings.kind true key.index ≡ true) × (is_value_of key.index value ≡ true)
config_value c key value h =
    let s = c.settings in
    let a = passed (is_invalid c.state) _ _ h in
    let b = passed (not (is_v112 key.version)) _ _ a.1 in
    let d = passed (not (is_index_of s.kind true key.index)) _ _ b.1 in
    let e = passed (not (is_port_of s.kind key)) _ _ d.1 in
    let f = passed (not (is_value_of key.index value) || not (is_good_value (is_input s.kind key.port) value)) _ _ e.1 in
    (not_not _ d.0, not_not _ (not_either (not (is_value_of key.index value)) _ f.0).0)

config_kept : (c : Component) (key : ParamKey) (value : Param) → is_index_of c.settings.kind true key.index ≡ true → is_value_of key.index value ≡ true → formats_of (changed_by key.port value c.settings).ports ≡ formats_of c.settings.ports
config_kept c key (params.Port d) i v = let e : key.index ≡ 1 = eqb-true key.index 1 v in let b : is_index_of c.settings.kind true 1 ≡ true = rw e at i in absurd cc
config_kept c key (params.Supplier x) i v = kept_supplier c.settings key.port x
config_kept c key (params.Priority n) i v = refl
config_kept c key (params.Gain n) i v = refl
config_kept c key (params.Weight n) i v = refl

pub still_configured : (c : Component) (key : ParamKey) (value : Param) → set_config_refusal c key value ≡ None → IsStillOut c (with_value key value c)
still_configured c key value h = let p = config_value c key value h in still_valued c key value (λ K. config_kept c key value p.0 p.1)

-- ---- happenings

still_client : (p : Pending) (c : Component) → IsStillOut c (completed_for p c)
still_client p c = either (is_by_client p.cause) (λ t. rw t (still_plain c _ refl refl refl refl refl)) (λ f. rw f (still_itself c))

still_lost : (p : Pending) (c : Component) → IsStillOut c (lost_by p c)
still_lost p c = either (c.loss_mark || not (is_by_client p.cause)) (λ t. rw t (still_plain c (lost c) refl refl refl refl refl)) (λ f. rw f (still_itself c))

still_arrived_at : (number : ℕ) (target : State) (p : Pending) (c : Component) → IsStillOut c (arrived_at number target p c)
still_arrived_at number Idle p c = either (is_down c.state)
    (λ t. rw t (still_plain c _ refl refl refl refl refl))
    (λ f.
    let r : Component = with_part (restarted c) (reached p c) in
    let m : Component = completed_for p r in
    rw f (still_on c r (lost_by p m) (still_plain c r refl refl refl refl refl) (still_on r m (lost_by p m) (still_client p r) (still_lost p m))))
still_arrived_at number Loaded p c =
    let d : Component = all_given_back (reached p c) in
    still_on c d (completed_for p d) (still_as c d refl refl refl refl refl (held_map unheld (λ x e. refl) c.ports)) (still_client p d)
still_arrived_at number Invalid p c = still_plain c _ refl refl refl refl refl
still_arrived_at number Executing p c = still_plain c _ refl refl refl refl refl
still_arrived_at number Pause p c = still_plain c _ refl refl refl refl refl
still_arrived_at number WaitForResources p c = still_plain c _ refl refl refl refl refl

pub still_arrived : (number : ℕ) (p : Pending) (c : Component) → IsStillOut c (arrived number p c)
still_arrived number p c = still_arrived_at number p.target p c

-- a thing of a port is done, and that is told
pub still_done : (events : List Event) (index : ℕ) (p : Port) (new : PortState) (c : Component) → port_of c index ≡ Some p → new.held ≡ p.state.held → IsStillOut c (all_told events (with_port p.key.port new c))
still_done events index p new c e h = still_on c (with_port p.key.port new c) (all_told events (with_port p.key.port new c)) (still_with_port p.key.port new p.state c (state_there c index p e) h) (still_told events (with_port p.key.port new c))
