use Rattle.std.proofs.Common.{◌∙◌, sym}
use Rattle.vx_haystack.proofs.Marks.{place_is, set_is}
use Rattle.vx_haystack.proofs.numbers.mark.Goals as goal

pub returns-in-Some-clause-set : goal.returns-in-Some-clause-set
returns-in-Some-clause-set g c =
    set_is c.args.words.now.items c.set_bit.new.words.items c.in-Some.offset _ (place_is g.T.SetInteger.count _ _ _ (sym c.offset_from.ensures ∙ c.in-Some.is) c.requires.above) c.set_bit.ensures.set c.set_bit.ensures.others
