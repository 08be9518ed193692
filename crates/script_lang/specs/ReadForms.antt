-- The form that words are, by their number and their first word.
use Rattle.std.specs.Prelude.{ℕ, Bool, true, false, nat_le, if◌then◌else◌, List, [], ◌∷◌, Option, Some, None, option_map, codes}
use Rattle.std.specs.Str.{bytes_eq}
use Rattle.act_text.specs.Reading.{name_of, port_of}
use Rattle.line_text.specs.ReadNumbers.{small_number}
use Rattle.act_text.specs.ReadActs.{act_of}
use Rattle.act_text.specs.declared.name.PortName.{PortName}
use Rattle.act_text.specs.declared.act.TextAct.{TextAct}
use Rattle.script_lang.specs.Forms.{is_end}
use Rattle.script_lang.specs.Hex.{bytes_of}
use Rattle.script_lang.specs.declared.form.TraceForm.{TraceForm}
use Rattle.script_lang.specs.declared.form.TraceForm.TheVariants.{Act, Get, Alloc, UseBuf, FreeBuf, Etb, Ftb}

abbrev pub line_act : TextAct → Option TraceForm
line_act act = if is_end act then None else Some (Act act)

abbrev pub act_form : Option TextAct → Option TraceForm
act_form None = None
act_form (Some act) = line_act act

-- a header at a port
abbrev pub at_port : List ℕ → List ℕ → PortName → Option TraceForm
at_port verb header port =
    if bytes_eq verb (codes "alloc") then Some (Alloc header port)
    else if bytes_eq verb (codes "freebuf") then Some (FreeBuf header port)
    else if bytes_eq verb (codes "ftb") then Some (Ftb header port)
    else None

abbrev pub at_port_of : List ℕ → Option (List ℕ) → Option PortName → Option TraceForm
at_port_of verb (Some header) (Some port) = at_port verb header port
at_port_of verb (Some header) None = None
at_port_of verb None port = None

abbrev pub form_of_three : List ℕ → List ℕ → List ℕ → Option TraceForm
form_of_three verb one two =
    if bytes_eq verb (codes "get") then option_map (λ component. Get component two) (name_of one)
    else at_port_of verb (name_of one) (port_of two)

abbrev pub usebuf_of : Option (List ℕ) → Option PortName → Option ℕ → Option TraceForm
usebuf_of (Some header) (Some port) (Some length) = if nat_le length 8192 then Some (UseBuf header port length) else None
usebuf_of (Some header) (Some port) None = None
usebuf_of (Some header) None length = None
usebuf_of None port length = None

abbrev pub flag_of : List ℕ → Option Bool
flag_of word = if bytes_eq word (codes "eos") then Some true else if bytes_eq word (codes "-") then Some false else None

abbrev pub etb_of : Option (List ℕ) → Option PortName → Option (List ℕ) → Option Bool → Option TraceForm
etb_of (Some header) (Some port) (Some bytes) (Some eos) = Some (Etb header port bytes eos)
etb_of (Some header) (Some port) (Some bytes) None = None
etb_of (Some header) (Some port) None eos = None
etb_of (Some header) None bytes eos = None
etb_of None port bytes eos = None

-- a line that names a header or what a component is made of
abbrev pub other_form_of : List (List ℕ) → Option TraceForm
other_form_of (verb ∷ one ∷ two ∷ []) = form_of_three verb one two
other_form_of (verb ∷ header ∷ port ∷ length ∷ []) =
    if bytes_eq verb (codes "usebuf") then usebuf_of (name_of header) (port_of port) (small_number length) else None
other_form_of (verb ∷ header ∷ port ∷ bytes ∷ flag ∷ []) =
    if bytes_eq verb (codes "etb") then etb_of (name_of header) (port_of port) (bytes_of bytes) (flag_of flag) else None
other_form_of words = None

-- that form, or else that of the act
abbrev pub either_form : Option TraceForm → Option TraceForm → Option TraceForm
either_form (Some form) other = Some form
either_form None other = other

abbrev pub form_of : List (List ℕ) → Option TraceForm
form_of words = either_form (other_form_of words) (act_form (act_of words))
