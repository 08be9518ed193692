-- The form of a play that words are, by their number and their first word.
use Rattle.std.specs.Prelude.{◌≡◌, ℕ, nat_le, nat_eq, ◌&&◌, if◌then◌else◌, List, [], ◌∷◌, Option, Some, None, length, option_map, codes}
use Rattle.std.specs.Str.{bytes_eq}
use Rattle.line_text.specs.ReadNumbers.{small_number}
use Rattle.act_text.specs.Reading.{name_of, port_of}
use Rattle.act_text.specs.declared.name.PortName.{PortName}
use Rattle.script_lang.specs.FileNames.{IsFileName}
use Rattle.script_lang.specs.declared.play_line.PartForm.{PartForm}
use Rattle.script_lang.specs.declared.play_line.PartForm.TheVariants.{Source, Late, Decoder, Alaw, Mulaw, Gain, Mixer, Splitter, Sink}
use Rattle.script_lang.specs.declared.play_form.PlayForm.{PlayForm}
use Rattle.script_lang.specs.declared.play_form.PlayForm.TheVariants.{Part, Link}

abbrev pub within : ℕ → ℕ → Option ℕ → Option ℕ
within low high None = None
within low high (Some n) = if nat_le low n && nat_le n high then Some n else None

-- the number within limits that a word is
abbrev pub number_within : ℕ → ℕ → List ℕ → Option ℕ
number_within low high word = within low high (small_number word)

abbrev pub with_first : Option ℕ → Option (List ℕ) → Option (List ℕ)
with_first None others = None
with_first (Some one) None = None
with_first (Some one) (Some others) = Some (one ∷ others)

-- the weights that words are
abbrev pub weights_of : List (List ℕ) → Option (List ℕ)
weights_of [] = Some []
weights_of (word ∷ words) = with_first (number_within 0 65535 word) (weights_of words)

-- a mixer, where the weights are as many as the line says
abbrev pub mixer_with : Option ℕ → Option (List ℕ) → Option PartForm
mixer_with None weights = None
mixer_with (Some inputs) None = None
mixer_with (Some inputs) (Some weights) = if nat_eq (length weights) inputs then Some (Mixer weights) else None

abbrev pub plain_part_of : List ℕ → Option PartForm
plain_part_of verb =
    if bytes_eq verb (codes "decoder") then Some Decoder
    else if bytes_eq verb (codes "alaw") then Some Alaw
    else if bytes_eq verb (codes "mulaw") then Some Mulaw
    else None

-- a part with a number
abbrev pub number_part_of : List ℕ → List ℕ → Option PartForm
number_part_of verb word =
    if bytes_eq verb (codes "gain") then option_map Gain (number_within 0 65535 word)
    else if bytes_eq verb (codes "splitter") then option_map Splitter (number_within 2 8 word)
    else None

-- a part with a file, where the word names one, or with a number
abbrev pub word_part_of : List ℕ → List ℕ → Option (List ℕ) → Option PartForm
word_part_of verb word file =
    if bytes_eq verb (codes "source") then option_map Source file
    else if bytes_eq verb (codes "late") then option_map Late file
    else if bytes_eq verb (codes "sink") then option_map Sink file
    else number_part_of verb word

abbrev pub part_with : Option (List ℕ) → Option PartForm → Option PlayForm
part_with None form = None
part_with (Some name) None = None
part_with (Some name) (Some form) = Some (Part name form)

abbrev pub link_with : Option PortName → Option PortName → Option ℕ → Option ℕ → Option PlayForm
link_with None input count size = None
link_with (Some output) None count size = None
link_with (Some output) (Some input) None size = None
link_with (Some output) (Some input) (Some count) None = None
link_with (Some output) (Some input) (Some count) (Some size) = Some (Link output input count size)

-- a link's last words
abbrev pub link_of : List ℕ → List ℕ → List (List ℕ) → Option PlayForm
link_of one two (count ∷ size ∷ []) = link_with (port_of one) (port_of two) (number_within 1 32 count) (number_within 1 4096 size)
link_of one two rest = None

abbrev pub long_form_of : List ℕ → List ℕ → List ℕ → List (List ℕ) → Option PlayForm
long_form_of verb one two rest =
    if bytes_eq verb (codes "link") then link_of one two rest
    else if bytes_eq verb (codes "mixer") then part_with (name_of one) (mixer_with (number_within 2 8 two) (weights_of rest))
    else None

-- the form that words are, where the third one names this file
abbrev pub play_form_of : Option (List ℕ) → List (List ℕ) → Option PlayForm
play_form_of file (verb ∷ name ∷ []) = part_with (name_of name) (plain_part_of verb)
play_form_of file (verb ∷ name ∷ word ∷ []) = part_with (name_of name) (word_part_of verb word file)
play_form_of file (verb ∷ one ∷ two ∷ three ∷ rest) = long_form_of verb one two (three ∷ rest)
play_form_of file words = None

-- the name of a file that a word is, or none
abbrev pub IsFileOf : List ℕ → Option (List ℕ) → Type 0
IsFileOf word None = IsFileName word → ⊥
IsFileOf word (Some file) = (file ≡ word) × IsFileName word
