-- Two plays worked out by hand: three samples from a source to a sink, and a mix of three links.
use Rattle.std.specs.Prelude.{ℕ, List, [], ◌∷◌, codes}
use Rattle.omx_types.specs.declared.format.Format.TheVariants.{Pcm}
use Rattle.script_lang.specs.declared.play_line.PartForm.{PartForm}
use Rattle.script_lang.specs.declared.play_line.PartForm.TheVariants.{Source, Mixer, Splitter, Sink}
use Rattle.script_lang.specs.declared.play_line.PartLine.{PartLine}
use Rattle.script_lang.specs.declared.play_line.LinkLine.{LinkLine}
use Rattle.play_forms.specs.declared.flow.Flow.{Flow}
use Rattle.play_forms.specs.Joints.{joints_of}
use Rattle.play_forms.specs.Plans.{PlanValue}

abbrev pub part : ℕ → List ℕ → PartForm → PartLine
part line name form = record { line = line; name = name; form = form }

abbrev pub link : ℕ → List ℕ → ℕ → List ℕ → ℕ → ℕ → ℕ → LinkLine
link line output_name output input_name input count size = record {
  line = line;
  output = record { component = output_name; index = output };
  input = record { component = input_name; index = input };
  count = count;
  size = size;
}

-- 16 bits, one channel, 8,000 frames a second
abbrev pub mono : ℕ → Flow
mono frames = record { format = Pcm 8000 1; frames = frames }

abbrev pub three_samples_parts : List PartLine
three_samples_parts = part 2 (codes "a") (Source (codes "in.wav")) ∷ part 3 (codes "b") (Sink (codes "out.wav")) ∷ []

abbrev pub three_samples : PlanValue
three_samples = record {
  units = 128;
  parts = three_samples_parts;
  joints = joints_of three_samples_parts (link 4 (codes "a") 0 (codes "b") 0 2 4096 ∷ []);
  order = 0 ∷ 1 ∷ [];
  flows = mono 3 ∷ [];
  frames = 3 ∷ 3 ∷ [];
}

-- 1, -1, 300
abbrev pub three_samples_files : List (List ℕ)
three_samples_files = (1 ∷ 0 ∷ 255 ∷ 255 ∷ 44 ∷ 1 ∷ []) ∷ []

abbrev pub three_samples_text : List ℕ
three_samples_text =
    0x52 ∷ 0x49 ∷ 0x46 ∷ 0x46 ∷ 0x2a ∷ 0 ∷ 0 ∷ 0 ∷ 0x57 ∷ 0x41 ∷ 0x56 ∷ 0x45 ∷ 0x66 ∷ 0x6d ∷ 0x74 ∷ 0x20
    ∷ 0x10 ∷ 0 ∷ 0 ∷ 0 ∷ 1 ∷ 0 ∷ 1 ∷ 0 ∷ 0x40 ∷ 0x1f ∷ 0 ∷ 0 ∷ 0x80 ∷ 0x3e ∷ 0 ∷ 0 ∷ 2 ∷ 0 ∷ 0x10 ∷ 0
    ∷ 0x64 ∷ 0x61 ∷ 0x74 ∷ 0x61 ∷ 6 ∷ 0 ∷ 0 ∷ 0 ∷ 1 ∷ 0 ∷ 0xff ∷ 0xff ∷ 0x2c ∷ 1 ∷ []

-- two sources, a splitter, and a mixer whose second weight is 0
abbrev pub mix_parts : List PartLine
mix_parts =
    part 2 (codes "a") (Source (codes "a.wav")) ∷ part 3 (codes "b") (Source (codes "b.wav")) ∷ part 4 (codes "p") (Splitter 2)
    ∷ part 5 (codes "m") (Mixer (4096 ∷ 0 ∷ 4096 ∷ [])) ∷ part 6 (codes "s") (Sink (codes "s.wav")) ∷ []

abbrev pub mix_links : List LinkLine
mix_links =
    link 7 (codes "a") 0 (codes "p") 0 1 2 ∷ link 8 (codes "p") 1 (codes "m") 0 1 4096 ∷ link 9 (codes "p") 2 (codes "m") 1 1 2
    ∷ link 10 (codes "b") 0 (codes "m") 2 1 4096 ∷ link 11 (codes "m") 3 (codes "s") 0 1 2 ∷ []

abbrev pub mix : PlanValue
mix = record {
  units = 128;
  parts = mix_parts;
  joints = joints_of mix_parts mix_links;
  order = 0 ∷ 1 ∷ 2 ∷ 3 ∷ 4 ∷ [];
  flows = mono 2 ∷ mono 2 ∷ mono 2 ∷ mono 3 ∷ mono 3 ∷ [];
  frames = 2 ∷ 3 ∷ 2 ∷ 3 ∷ 3 ∷ [];
}

-- 32767, -5; and 1, 2, 3
abbrev pub mix_files : List (List ℕ)
mix_files = (255 ∷ 127 ∷ 251 ∷ 255 ∷ []) ∷ (1 ∷ 0 ∷ 2 ∷ 0 ∷ 3 ∷ 0 ∷ []) ∷ []

-- the splitter's input and its two outputs, the second source, and 32767, -3, 3
abbrev pub mix_streams : List (List ℕ)
mix_streams =
    (255 ∷ 127 ∷ 251 ∷ 255 ∷ []) ∷ (255 ∷ 127 ∷ 251 ∷ 255 ∷ []) ∷ (255 ∷ 127 ∷ 251 ∷ 255 ∷ [])
    ∷ (1 ∷ 0 ∷ 2 ∷ 0 ∷ 3 ∷ 0 ∷ []) ∷ (255 ∷ 127 ∷ 253 ∷ 255 ∷ 3 ∷ 0 ∷ []) ∷ []
