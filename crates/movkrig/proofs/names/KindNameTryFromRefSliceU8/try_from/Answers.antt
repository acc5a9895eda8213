use Rattle.std.proofs.Common.{◌≡◌, rules, ap, codes}
use Rattle.movkrig.specs.Names.{kind_named}
use Rattle.movkrig.proofs.Spelling.{six}
use Rattle.movkrig.proofs.names.KindNameTryFromRefSliceU8.try_from.Goals as goal

pub returns-in-digits : goal.returns-in-digits
returns-in-digits c = let word : c.args.word.now ≡ codes "digits" = search (rules, six) in ap kind_named word
