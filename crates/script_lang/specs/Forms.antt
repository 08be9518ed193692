-- The forms of a trace script's lines: a table with a row for each form.
use Rattle.std.specs.Prelude.{ℕ, ◌≤◌, Bool, true, false, IsFalse, if◌then◌else◌, List, [], ◌∷◌, codes}
use Rattle.std.specs.Fmt.{decimal}
use Rattle.act_text.specs.Acts.{act_words, IsAct}
use Rattle.act_text.specs.Names.{IsName}
use Rattle.act_text.specs.Ports.{IsPortName, port_word}
use Rattle.act_text.specs.declared.act.TextAct.{TextAct}
use Rattle.act_text.specs.declared.act.TextAct.TheVariants.{End}
use Rattle.script_lang.specs.Hex.{bytes_word, AreBytes}
use Rattle.script_lang.specs.declared.form.TraceForm.{TraceForm}
use Rattle.script_lang.specs.declared.form.TraceForm.TheVariants.{Act, Get, Alloc, UseBuf, FreeBuf, Etb, Ftb}

abbrev pub flag_word : Bool → List ℕ
flag_word eos = if eos then codes "eos" else codes "-"

abbrev pub form_words : TraceForm → List (List ℕ)
form_words (Act act) = act_words act
form_words (Get component kind) = codes "get" ∷ component ∷ kind ∷ []
form_words (Alloc header port) = codes "alloc" ∷ header ∷ port_word port ∷ []
form_words (UseBuf header port length) = codes "usebuf" ∷ header ∷ port_word port ∷ decimal length ∷ []
form_words (FreeBuf header port) = codes "freebuf" ∷ header ∷ port_word port ∷ []
form_words (Etb header port bytes eos) = codes "etb" ∷ header ∷ port_word port ∷ bytes_word bytes ∷ flag_word eos ∷ []
form_words (Ftb header port) = codes "ftb" ∷ header ∷ port_word port ∷ []

-- `end NAME` is an act of a log alone
abbrev pub is_end : TextAct → Bool
is_end (End component) = true
is_end other = false

-- the names are names, and the numbers are within their limits
abbrev pub IsForm : TraceForm → Type 0
IsForm (Act act) = IsAct act × IsFalse (is_end act)
IsForm (Get component kind) = IsName component
IsForm (Alloc header port) = IsName header × IsPortName port
IsForm (UseBuf header port length) = IsName header × IsPortName port × (length ≤ 8192)
IsForm (FreeBuf header port) = IsName header × IsPortName port
IsForm (Etb header port bytes eos) = IsName header × IsPortName port × AreBytes bytes
IsForm (Ftb header port) = IsName header × IsPortName port
