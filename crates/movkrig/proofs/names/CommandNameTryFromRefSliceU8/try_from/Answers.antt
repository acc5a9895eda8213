use Rattle.std.proofs.Common.{◌≡◌, rules, ap, codes}
use Rattle.movkrig.specs.Names.{command_named}
use Rattle.movkrig.proofs.Spelling.{six}
use Rattle.movkrig.proofs.names.CommandNameTryFromRefSliceU8.try_from.Goals as goal

pub returns-in-encode : goal.returns-in-encode
returns-in-encode c = let word : c.args.word.now ≡ codes "encode" = search (rules, six) in ap command_named word

pub returns-in-decode : goal.returns-in-decode
returns-in-decode c = let word : c.args.word.now ≡ codes "decode" = search (rules, six) in ap command_named word
