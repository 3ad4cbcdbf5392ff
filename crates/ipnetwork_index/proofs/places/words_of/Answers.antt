use Rattle.ipnetwork_index.proofs.Known.{◌≡◌, arith, word_is, word_pushed}
use Rattle.ipnetwork_index.proofs.places.words_of.Goals as goal

pub loop-address-preserved : goal.loop-address-preserved
loop-address-preserved g c =
    let f = g.N.CidrNetwork.number in
    let word : c.low_word.result ≡ f c.address-item.result
    = rw c.low_word.ensures
    (word_is g.N.CidrNetwork.WIDTH (g.N.Number.Key.value c.number_of.result)
    (f c.address-item.result) c.requires c.number_of.ensures.number c.number_of.ensures.width) in
    rw c.in_ok-push.ensures.items
    (word_pushed f c.args.addresses.now c.loop-address.words.items c.loop-address.address-index
    c.address-item.result c.low_word.result c.loop-address.invariant
    (omega (arith, c.loop-address-test.true)) c.address-item.is word)
