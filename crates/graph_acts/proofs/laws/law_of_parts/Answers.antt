use Rattle.std.proofs.Common.{refl}
use Rattle.audio_parts.specs.declared.any_part.AnyPart.TheVariants.{Source, Decoder, Encoder, Gain, Mixer, Splitter, Sink}
use Rattle.graph_acts.proofs.laws.law_of_parts.Goals as goal

pub returns-clause-terms : goal.returns-clause-terms
returns-clause-terms g c = elim [ Source it ↦ refl | Decoder it ↦ refl | Encoder it ↦ refl | Gain it ↦ refl | Mixer it ↦ refl | Splitter it ↦ refl | Sink it ↦ refl ]

pub returns-clause-failed : goal.returns-clause-failed
returns-clause-failed g c = elim [ Source it ↦ refl | Decoder it ↦ refl | Encoder it ↦ refl | Gain it ↦ refl | Mixer it ↦ refl | Splitter it ↦ refl | Sink it ↦ refl ]

pub returns-clause-left : goal.returns-clause-left
returns-clause-left g c = elim [ Source it ↦ refl | Decoder it ↦ refl | Encoder it ↦ refl | Gain it ↦ refl | Mixer it ↦ refl | Splitter it ↦ refl | Sink it ↦ refl ]

pub returns-clause-rest : goal.returns-clause-rest
returns-clause-rest g c = elim [ Source it ↦ refl | Decoder it ↦ refl | Encoder it ↦ refl | Gain it ↦ refl | Mixer it ↦ refl | Splitter it ↦ refl | Sink it ↦ refl ]

pub returns-clause-kept : goal.returns-clause-kept
returns-clause-kept g c = elim [ Source it ↦ refl | Decoder it ↦ refl | Encoder it ↦ refl | Gain it ↦ refl | Mixer it ↦ refl | Splitter it ↦ refl | Sink it ↦ refl ]

pub returns-clause-writing : goal.returns-clause-writing
returns-clause-writing g c = elim [ Source it ↦ refl | Decoder it ↦ refl | Encoder it ↦ refl | Gain it ↦ refl | Mixer it ↦ refl | Splitter it ↦ refl | Sink it ↦ refl ]
