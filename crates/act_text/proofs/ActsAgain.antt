-- The words of an act say that act.
use Rattle.std.proofs.Common.{◌≡◌, ℕ, ◌^◌, ◌<◌, Bool, true, false, List, [], ◌∷◌, ◌++◌, length, get_or, refl, sym, ap, IsFalse, codes, arith, rules, Some, None}
use Rattle.std.specs.Borrow.{Bor}
use Rattle.std.specs.Fmt.{decimal}
use Rattle.std.specs.List.{list_all}
use Rattle.std.specs.Str.{bytes_eq}
use Rattle.std.proofs.lemmas.Slice.Eq.{bytes_eq-Decides}
use Rattle.std.proofs.lemmas.Grind.{common_steps}
use Rattle.omx_types.specs.declared.command.PortSel.{PortSel}
use Rattle.omx_types.specs.declared.command.PortSel.TheVariants.{One, All}
use Rattle.omx_types.specs.declared.format.Format.TheVariants.{Pcm, Alaw, Mulaw, Auto}
use Rattle.omx_types.specs.declared.param.Supplier.{Supplier}
use Rattle.omx_types.specs.declared.param.Supplier.TheVariants.{Unspecified, Input, Output}
use Rattle.omx_types.specs.declared.state.State.{State as StateType}
use Rattle.omx_types.specs.declared.state.State.TheVariants as states
use Rattle.omx_types.specs.Names.{state_name}
use Rattle.act_text.specs.Names.{is_name, is_name_byte}
use Rattle.line_text.specs.Lists.{texts}
use Rattle.act_text.specs.Ports.{port_word}
use Rattle.act_text.specs.Acts.{act_words, ports_word, supplier_word, IsAct, ArePorts, FitsWord}
use Rattle.act_text.specs.Reading.{name_of}
use Rattle.line_text.specs.ReadNumbers.{small_number}
use Rattle.act_text.specs.ReadActs.{act_of, state_of, supplier_of, ports_of}
use Rattle.act_text.specs.declared.name.PortName.{PortName}
use Rattle.act_text.specs.declared.act.TextAct.{TextAct}
use Rattle.act_text.specs.declared.act.TextAct.TheVariants.{Free, State, Port, SetPort, SetSupplier, SetPriority, Gain, Weight, Tunnel, DropTunnel, SendState, SendFlush, SendDisable, SendEnable, SendMark, Run, Claim, Finish, Supply, Release, Over, Back, Take, End, Grant, Preempt}
use Rattle.act_text.proofs.Dots.{name_of-name, port_of-port, name-bytes, name_of-other}
use Rattle.line_text.proofs.Numerals.{number_below-decimal, decimal-digits}

pub small-again : (n : ℕ) → FitsWord n → small_number (decimal n) ≡ Some n
small-again n fits = number_below-decimal (2 ^ 32) n (omega arith) fits

pub state-again : (state : StateType) → state_of (state_name state) ≡ Some state
state-again states.Invalid = refl
state-again states.Loaded = refl
state-again states.Idle = refl
state-again states.Executing = refl
state-again states.Pause = refl
state-again states.WaitForResources = refl

supplier-again : (supplier : Supplier) → supplier_of (supplier_word supplier) ≡ Some supplier
supplier-again Unspecified = refl
supplier-again Input = refl
supplier-again Output = refl

-- a number isn't the word for all ports
ports_of-number : (n : ℕ) → n < 2 ^ 64 → bytes_eq (decimal n) (codes "all") ≡ false
ports_of-number n fits =
    elim (bytes_eq (decimal n) (codes "all")) as (λ (same : Bool). bytes_eq (decimal n) (codes "all") ≡ same → same ≡ false) [
      | true ↦ λ same.
          let is = (bytes_eq-Decides (decimal n) (codes "all")).0 same in
          let some : 0 < length (decimal n) = omega (arith, ap length is) in
          let digit = decimal-digits n fits 0 some in
          let first : get_or (decimal n) 0 0 ≡ 97 = ap (λ (word : List ℕ). get_or word 0 0) is in
          absurd (omega (arith, digit.0, digit.1, first))
      | false ↦ λ _. refl
    ] refl

ports-again : (ports : PortSel) → ArePorts ports → ports_of (ports_word ports) ≡ Some ports
ports-again (One port) fits = rw (ports_of-number port (omega arith), small-again port fits) refl
ports-again All fits = refl

dot_in_name : (front rest : List ℕ) → list_all is_name_byte (front ++ (46 ∷ rest)) ≡ true → ⊥
dot_in_name [] rest is = (let e : false ≡ true = is in search (rules, e))
dot_in_name (byte ∷ front) rest is = dot_in_name front rest (Prim.grind (arith, common_steps))

-- a word with a dot is no name
name_of-port : (port : PortName) → name_of (port_word port) ≡ None
name_of-port port =
    let word = port_word port in
    let no : is_name word ≡ true → ⊥ = λ is. dot_in_name port.component (decimal port.index) (name-bytes word is) in
    sym (name_of-other word (elim (is_name word) as (λ (test : Bool). is_name word ≡ test → IsFalse test) [ true ↦ λ is. absurd (no is) | false ↦ λ _. search rules ] refl))

pub act-again : (act : TextAct) → IsAct act → act_of (act_words act) ≡ Some act
act-again (Free component) is = rw (name_of-name component is) refl
act-again (State component) is = rw (name_of-name component is) refl
act-again (Port port) is = rw (name_of-port port, port_of-port port is) refl
act-again (SetPort port (Pcm rate channels) count size) is = rw (port_of-port port is.0, small-again rate is.1.0, small-again channels is.1.1, small-again count is.2, small-again size is.3) refl
act-again (SetPort port (Alaw rate channels) count size) is = rw (port_of-port port is.0, small-again rate is.1.0, small-again channels is.1.1, small-again count is.2, small-again size is.3) refl
act-again (SetPort port (Mulaw rate channels) count size) is = rw (port_of-port port is.0, small-again rate is.1.0, small-again channels is.1.1, small-again count is.2, small-again size is.3) refl
act-again (SetPort port Auto count size) is = rw (port_of-port port is.0, small-again count is.2, small-again size is.3) refl
act-again (SetSupplier port supplier) is = rw (port_of-port port is, supplier-again supplier) refl
act-again (SetPriority component priority) is = rw (name_of-name component is.0, small-again priority is.1) refl
act-again (Gain component gain) is = rw (name_of-name component is.0, small-again gain is.1) refl
act-again (Weight port weight) is = rw (port_of-port port is.0, small-again weight is.1) refl
act-again (Tunnel first second) is = rw (port_of-port first is.0, port_of-port second is.1) refl
act-again (DropTunnel first second) is = rw (port_of-port first is.0, port_of-port second is.1) refl
act-again (SendState component state) is = rw (name_of-name component is, state-again state) refl
act-again (SendFlush component ports) is = rw (name_of-name component is.0, ports-again ports is.1) refl
act-again (SendDisable component ports) is = rw (name_of-name component is.0, ports-again ports is.1) refl
act-again (SendEnable component ports) is = rw (name_of-name component is.0, ports-again ports is.1) refl
act-again (SendMark component port target value) is = rw (name_of-name component is.0, small-again port is.1, name_of-name target is.2, number_below-decimal (2 ^ 64) value is.3 is.3) refl
act-again (Run component) is = rw (name_of-name component is) refl
act-again (Claim component) is = rw (name_of-name component is) refl
act-again (Finish component) is = rw (name_of-name component is) refl
act-again (Supply port) is = rw (name_of-port port, port_of-port port is) refl
act-again (Release port) is = rw (name_of-port port, port_of-port port is) refl
act-again (Over port) is = rw (name_of-port port, port_of-port port is) refl
act-again (Back port) is = rw (name_of-port port, port_of-port port is) refl
act-again (Take component) is = rw (name_of-name component is) refl
act-again (End component) is = rw (name_of-name component is) refl
act-again Grant is = refl
act-again Preempt is = refl

pub act_of-other : (verb subject what : List ℕ) (rest : List (Bor (List ℕ))) → 0 < length rest → (length rest ≡ 1 → ⊥) → (length rest ≡ 3 → ⊥) → (length rest ≡ 5 → ⊥) → act_of (verb ∷ subject ∷ what ∷ texts rest) ≡ None
act_of-other verb subject what [] some one three five = absurd (omega arith)
act_of-other verb subject what (_ ∷ []) some one three five = absurd (one refl)
act_of-other verb subject what (_ ∷ _ ∷ []) some one three five = refl
act_of-other verb subject what (_ ∷ _ ∷ _ ∷ []) some one three five = absurd (three refl)
act_of-other verb subject what (_ ∷ _ ∷ _ ∷ _ ∷ []) some one three five = refl
act_of-other verb subject what (_ ∷ _ ∷ _ ∷ _ ∷ _ ∷ []) some one three five = absurd (five refl)
act_of-other verb subject what (_ ∷ _ ∷ _ ∷ _ ∷ _ ∷ _ ∷ _) some one three five = refl
