-- The forms of a play script's lines: a table with a row for each form.
use Rattle.std.specs.Prelude.{◌≡◌, ℕ, ◌≤◌, List, [], ◌∷◌, length, map, codes}
use Rattle.std.specs.Fmt.{decimal}
use Rattle.std.specs.List.{AllByRecursion}
use Rattle.act_text.specs.Names.{IsName}
use Rattle.act_text.specs.Ports.{IsPortName, port_word}
use Rattle.script_lang.specs.FileNames.{IsFileName}
use Rattle.script_lang.specs.declared.play_line.PartForm.{PartForm}
use Rattle.script_lang.specs.declared.play_line.PartForm.TheVariants.{Source, Late, Decoder, Alaw, Mulaw, Gain, Mixer, Splitter, Sink}
use Rattle.script_lang.specs.declared.play_form.PlayForm.{PlayForm}
use Rattle.script_lang.specs.declared.play_form.PlayForm.TheVariants.{Part, Link}

abbrev pub part_words : List ℕ → PartForm → List (List ℕ)
part_words name (Source file) = codes "source" ∷ name ∷ file ∷ []
part_words name (Late file) = codes "late" ∷ name ∷ file ∷ []
part_words name Decoder = codes "decoder" ∷ name ∷ []
part_words name Alaw = codes "alaw" ∷ name ∷ []
part_words name Mulaw = codes "mulaw" ∷ name ∷ []
part_words name (Gain gain) = codes "gain" ∷ name ∷ decimal gain ∷ []
part_words name (Mixer weights) = codes "mixer" ∷ name ∷ decimal (length weights) ∷ map decimal weights
part_words name (Splitter outputs) = codes "splitter" ∷ name ∷ decimal outputs ∷ []
part_words name (Sink file) = codes "sink" ∷ name ∷ file ∷ []

abbrev pub play_words : PlayForm → List (List ℕ)
play_words (Part name form) = part_words name form
play_words (Link output input count size) = codes "link" ∷ port_word output ∷ port_word input ∷ decimal count ∷ decimal size ∷ []

abbrev pub IsFactor : ℕ → Type 0
IsFactor factor = factor ≤ 65535

-- as many as a mixer has inputs, or a splitter outputs
abbrev pub AreTwoToEight : ℕ → Type 0
AreTwoToEight ports = (2 ≤ ports) × (ports ≤ 8)

-- the numbers are within their limits
abbrev pub IsPartForm : PartForm → Type 0
IsPartForm (Source file) = IsFileName file
IsPartForm (Late file) = IsFileName file
IsPartForm Decoder = Unit {0}
IsPartForm Alaw = Unit {0}
IsPartForm Mulaw = Unit {0}
IsPartForm (Gain gain) = IsFactor gain
IsPartForm (Mixer weights) = AreTwoToEight (length weights) × AllByRecursion IsFactor weights
IsPartForm (Splitter outputs) = AreTwoToEight outputs
IsPartForm (Sink file) = IsFileName file

abbrev pub IsPlayForm : PlayForm → Type 0
IsPlayForm (Part name form) = IsName name × IsPartForm form
IsPlayForm (Link output input count size) =
    IsPortName output × IsPortName input × ((1 ≤ count) × (count ≤ 32)) × ((1 ≤ size) × (size ≤ 4096))

-- the words behind the first one and the name, for every name
abbrev pub IsPartOf : List ℕ → List (List ℕ) → PartForm → Type 0
IsPartOf verb rest form = IsPartForm form × ((name : List ℕ) → verb ∷ name ∷ rest ≡ part_words name form)
