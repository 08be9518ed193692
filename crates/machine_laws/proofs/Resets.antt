-- The headers at home in a port are reset.
use Rattle.std.proofs.Common.{◌≡◌, inl, inr, ℕ, Bool, true, false, List, [], ◌∷◌, Some, refl, ◌∙◌, subst}
use Rattle.std.proofs.lemmas.Bool.{cases_eq}
use Rattle.omx_types.specs.declared.state.State.{State}
use Rattle.omx_types.specs.declared.state.State.TheVariants.{Invalid, Loaded, Idle, Executing, Pause, WaitForResources}
use Rattle.il_machine.specs.declared.port.PortKey.{PortKey}
use Rattle.il_machine.specs.declared.port.Port.{Port}
use Rattle.il_machine.specs.declared.header.Owner.TheVariants as owners
use Rattle.il_machine.specs.declared.header.Spot.{Spot}
use Rattle.il_machine.specs.declared.header.Spot.TheVariants.{TodoBack, DoneBack}
use Rattle.il_machine.specs.States.{is_down}
use Rattle.il_machine.specs.World.{Component, HeaderRecord, ports_of}
use Rattle.il_machine.specs.Headers.{seen, find_header, put, put_at, changed, cleared, put_all, cleared_all, reset, Once}
use Rattle.il_machine.specs.Ports.{is_supplier, is_input_port}
use Rattle.il_machine.specs.Due.{reset_port, reset_ports, reset_on}
use Rattle.il_machine.specs.Sound.{IsOwnedSo}
use Rattle.machine_laws.proofs.Finding.{either, changed_same, changed_else}
use Rattle.machine_laws.proofs.Replacing.{replaced_put}
use Rattle.machine_laws.proofs.Parts.{Parts}
use Rattle.machine_laws.proofs.Headers.{is_set_aside, parts_put, parts_loaded}
use Rattle.machine_laws.proofs.Listed.{IsIn, AreIn, todo_in, done_in}

-- the rest are still in the port after one header of it is put there
in_after_put : (key : PortKey) (spot : Spot) (n m : ℕ) (hs : List HeaderRecord) (r : HeaderRecord) → Once hs → find_header n hs ≡ Some r → IsIn key hs m → IsIn key (put key spot n cleared hs) m
in_after_put key spot n m hs r o f I =
    let R = replaced_put key spot cleared (λ x. refl) n hs r o f in
    elim (cases_eq m n) [
      | inl e ↦ rw e (record { header = put_at key spot (cleared r); found = R.here; owner = refl })
      | inr a ↦ record { header = I.header; found = R.others m a ∙ I.found; owner = I.owner }
    ]

all_after_put : (key : PortKey) (spot : Spot) (n : ℕ) (ns : List ℕ) (hs : List HeaderRecord) (r : HeaderRecord) → Once hs → find_header n hs ≡ Some r → AreIn key hs ns → AreIn key (put key spot n cleared hs) ns
all_after_put key spot n [] hs r o f A = tt
all_after_put key spot n (m ∷ ns) hs r o f A = (in_after_put key spot n m hs r o f A.0, all_after_put key spot n ns hs r o f A.1)

in_after_clear : (key : PortKey) (n m : ℕ) (hs : List HeaderRecord) → IsIn key hs m → IsIn key (changed n cleared hs) m
in_after_clear key n m hs I = elim (cases_eq m n) [
  | inl e ↦ rw e (record { header = cleared I.header; found = changed_same cleared (λ x. refl) n hs I.header (subst (λ (k : ℕ). find_header k hs ≡ Some I.header) e I.found); owner = I.owner })
  | inr a ↦ record { header = I.header; found = changed_else cleared (λ x. refl) n m hs a ∙ I.found; owner = I.owner }
]

all_after_clear : (key : PortKey) (n : ℕ) (ns : List ℕ) (hs : List HeaderRecord) → AreIn key hs ns → AreIn key (changed n cleared hs) ns
all_after_clear key n [] hs A = tt
all_after_clear key n (m ∷ ns) hs A = (in_after_clear key n m hs A.0, all_after_clear key n ns hs A.1)

pub all_after_clears : (key : PortKey) (ms ns : List ℕ) (hs : List HeaderRecord) → AreIn key hs ns → AreIn key (cleared_all ms hs) ns
all_after_clears key [] ns hs A = A
all_after_clears key (m ∷ ms) ns hs A = all_after_clears key ms ns (changed m cleared hs) (all_after_clear key m ns hs A)

-- ---- the reset keeps a sound world's parts

module _ (cs : List Component) (numbered made : ℕ) where
  parts_put_all : (key : PortKey) (spot : Spot) (ns : List ℕ) (hs : List HeaderRecord) → Parts cs hs numbered made → AreIn key hs ns → Parts cs (put_all key spot ns hs) numbered made
  parts_put_all key spot [] hs P A = P
  parts_put_all key spot (n ∷ ns) hs P A =
      let I = A.0 in
      let O : IsOwnedSo (I.header).state (owners.Port key) = rw I.owner at (P.tied.placed n I.header I.found).owner in
      let o : is_set_aside (I.header).state.owner ≡ false = rw I.owner refl in
      parts_put_all key spot ns (put key spot n cleared hs)
      (parts_put cs key spot cleared n I.header hs numbered made (λ x. refl) P I.found o O.0)
      (all_after_put key spot n ns hs I.header P.once I.found A.1)

  parts_cleared_all : (ns : List ℕ) (hs : List HeaderRecord) → Parts cs hs numbered made → Parts cs (cleared_all ns hs) numbered made
  parts_cleared_all [] hs P = P
  parts_cleared_all (n ∷ ns) hs P = parts_cleared_all ns (changed n cleared hs) (parts_loaded cs cleared n hs numbered made (λ x. refl) P)

  pub parts_reset : (input : Bool) (key : PortKey) (hs : List HeaderRecord) → Parts cs hs numbered made → Parts cs (reset input key hs) numbered made
  parts_reset true key hs P = parts_put_all key DoneBack ((seen hs).todo key) (cleared_all ((seen hs).done key) hs) (parts_cleared_all ((seen hs).done key) hs P)
      (all_after_clears key ((seen hs).done key) ((seen hs).todo key) hs (todo_in key hs P.once))
  parts_reset false key hs P = parts_put_all key TodoBack ((seen hs).done key) (cleared_all ((seen hs).todo key) hs) (parts_cleared_all ((seen hs).todo key) hs P)
      (all_after_clears key ((seen hs).todo key) ((seen hs).done key) hs (done_in key hs P.once))

  pub parts_reset_port : (p : Port) (hs : List HeaderRecord) → Parts cs hs numbered made → Parts cs (reset_port p hs) numbered made
  parts_reset_port p hs P = either (is_supplier p) (λ t. rw t (parts_reset (is_input_port p) p.key hs P)) (λ f. rw f P)

  pub parts_reset_ports : (ps : List Port) (hs : List HeaderRecord) → Parts cs hs numbered made → Parts cs (reset_ports ps hs) numbered made
  parts_reset_ports [] hs P = P
  parts_reset_ports (p ∷ ps) hs P = parts_reset_ports ps (reset_port p hs) (parts_reset_port p hs P)

  pub parts_reset_on : (c : Component) (target : State) (hs : List HeaderRecord) → Parts cs hs numbered made → Parts cs (reset_on c target hs) numbered made
  parts_reset_on c Idle hs P = either (is_down c.state) (λ t. rw t P) (λ f. rw f (parts_reset_ports (ports_of c) hs P))
  parts_reset_on c Loaded hs P = P
  parts_reset_on c Executing hs P = P
  parts_reset_on c Pause hs P = P
  parts_reset_on c WaitForResources hs P = P
  parts_reset_on c Invalid hs P = P
