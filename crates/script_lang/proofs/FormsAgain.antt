-- The words of a form are of that form.
use Rattle.std.proofs.Common.{◌≡◌, ℕ, ◌+◌, ◌*◌, ◌/◌, ◌%◌, ◌^◌, ◌<◌, ◌≤◌, true, false, nat_le, List, [], ◌∷◌, length, refl, arith, rules, Option, Some, None, codes}
use Rattle.std.specs.Fmt.{decimal}
use Rattle.std.specs.Str.{bytes_eq}
use Rattle.std.proofs.lemmas.Grind.{common_steps}
use Rattle.line_text.specs.Numbers.{hex_digit, hex_of}
use Rattle.omx_types.specs.declared.format.Format.TheVariants as formats
use Rattle.act_text.specs.Acts.{act_words}
use Rattle.act_text.specs.declared.name.PortName.{PortName}
use Rattle.act_text.specs.declared.act.TextAct.{TextAct}
use Rattle.act_text.specs.declared.act.TextAct.TheVariants as acts
use Rattle.act_text.proofs.ActsAgain.{act-again, small-again}
use Rattle.act_text.proofs.Dots.{name_of-name, port_of-port}
use Rattle.act_text.proofs.WordCounts.{act-short}
use Rattle.script_lang.specs.Forms.{form_words, IsForm, is_end}
use Rattle.script_lang.specs.Hex.{AreBytes, bytes_word, byte_with, pairs_of, bytes_of}
use Rattle.script_lang.specs.ReadForms.{form_of, other_form_of, at_port_of}
use Rattle.script_lang.specs.Scripts.{units_of}
use Rattle.script_lang.specs.declared.form.TraceForm.{TraceForm}
use Rattle.script_lang.specs.declared.form.TraceForm.TheVariants.{Act, Get, Alloc, UseBuf, FreeBuf, Etb, Ftb}
use Rattle.script_lang.proofs.HexWords.{digit-again}

tunnel-other : (header : Option (List ℕ)) (port : Option PortName) → at_port_of (codes "tunnel") header port ≡ None
tunnel-other (Some header) (Some port) = refl
tunnel-other (Some header) None = refl
tunnel-other None port = refl

drop-other : (header : Option (List ℕ)) (port : Option PortName) → at_port_of (codes "drop") header port ≡ None
drop-other (Some header) (Some port) = refl
drop-other (Some header) None = refl
drop-other None port = refl

act-no-other : (act : TextAct) → other_form_of (act_words act) ≡ None
act-no-other (acts.Free _) = refl
act-no-other (acts.State _) = refl
act-no-other (acts.Run _) = refl
act-no-other (acts.Claim _) = refl
act-no-other (acts.Finish _) = refl
act-no-other (acts.Take _) = refl
act-no-other (acts.End _) = refl
act-no-other (acts.Port _) = refl
act-no-other (acts.Supply _) = refl
act-no-other (acts.Release _) = refl
act-no-other (acts.Over _) = refl
act-no-other (acts.Back _) = refl
act-no-other (acts.SetPort _ (formats.Pcm _ _) _ _) = refl
act-no-other (acts.SetPort _ (formats.Alaw _ _) _ _) = refl
act-no-other (acts.SetPort _ (formats.Mulaw _ _) _ _) = refl
act-no-other (acts.SetPort _ formats.Auto _ _) = refl
act-no-other (acts.SetSupplier _ _) = refl
act-no-other (acts.SetPriority _ _) = refl
act-no-other (acts.Gain _ _) = refl
act-no-other (acts.Weight _ _) = refl
act-no-other (acts.Tunnel _ _) = tunnel-other _ _
act-no-other (acts.DropTunnel _ _) = drop-other _ _
act-no-other (acts.SendState _ _) = refl
act-no-other (acts.SendFlush _ _) = refl
act-no-other (acts.SendDisable _ _) = refl
act-no-other (acts.SendEnable _ _) = refl
act-no-other (acts.SendMark _ _ _ _) = refl
act-no-other acts.Grant = refl
act-no-other acts.Preempt = refl

byte-again : (byte : ℕ) → byte < 256 → byte_with (hex_digit (byte / 16)) (hex_digit (byte % 16)) ≡ Some byte
byte-again byte small =
    let high = digit-again (byte / 16) (omega arith) in
    let low = digit-again (byte % 16) (omega arith) in
    let value : byte / 16 * 16 + byte % 16 ≡ byte = omega arith in
    rw (high.0, low.0, high.1, low.1, value) refl

hex-pairs : (bytes : List ℕ) → AreBytes bytes → pairs_of (hex_of bytes) ≡ Some bytes
hex-pairs [] are = refl
hex-pairs (byte ∷ bytes) are = rw (byte-again byte are.0, hex-pairs bytes are.1) refl

no-dash : (high low : ℕ) (digits : List ℕ) → bytes_eq (high ∷ low ∷ digits) (codes "-") ≡ false
no-dash high low digits = Prim.grind (arith, common_steps)

bytes-again : (bytes : List ℕ) → AreBytes bytes → bytes_of (bytes_word bytes) ≡ Some bytes
bytes-again [] are = refl
bytes-again (byte ∷ bytes) are =
    let other = no-dash (hex_digit (byte / 16)) (hex_digit (byte % 16)) (hex_of bytes) in
    rw (other, byte-again byte are.0, hex-pairs bytes are.1) refl

few : (n limit : ℕ) → n ≤ limit → nat_le n limit ≡ true
few n limit small = Prim.grind (arith, common_steps)

pub form-again : (form : TraceForm) → IsForm form → form_of (form_words form) ≡ Some form
form-again (Act act) is =
    let line : is_end act ≡ false = search (rules, is.1) in
    rw (act-no-other act, act-again act is.0, line) refl
form-again (Get component kind) is = rw (name_of-name component is) refl
form-again (Alloc header port) is = rw (name_of-name header is.0, port_of-port port is.1) refl
form-again (UseBuf header port length) is =
    let fits : length < 2 ^ 32 = omega (arith, is.2) in
    rw (name_of-name header is.0, port_of-port port is.1, small-again length fits, few length 8192 is.2) refl
form-again (FreeBuf header port) is = rw (name_of-name header is.0, port_of-port port is.1) refl
form-again (Etb header port bytes true) is = rw (name_of-name header is.0, port_of-port port is.1, bytes-again bytes is.2) refl
form-again (Etb header port bytes false) is = rw (name_of-name header is.0, port_of-port port is.1, bytes-again bytes is.2) refl
form-again (Ftb header port) is = rw (name_of-name header is.0, port_of-port port is.1) refl

pub form-short : (form : TraceForm) → length (form_words form) ≤ 8
form-short (Act act) = act-short act
form-short (Get _ _) = omega arith
form-short (Alloc _ _) = omega arith
form-short (UseBuf _ _ _) = omega arith
form-short (FreeBuf _ _) = omega arith
form-short (Etb _ _ _ _) = omega arith
form-short (Ftb _ _) = omega arith

pub units-again : (n : ℕ) → n ≤ 1000 → units_of (codes "units" ∷ decimal n ∷ []) ≡ Some n
units-again n small =
    let fits : n < 2 ^ 32 = omega arith in
    rw (small-again n fits, few n 1000 small) refl
