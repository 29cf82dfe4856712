-- A sound memory says it of both.
use Rattle.sl_model.proofs.Located.{stamp-once, stamp-alive, refers_stands}
use Rattle.sl_model.proofs.laws.one_place.Goals as goal

pub returns-clause-once : goal.returns-clause-once
returns-clause-once c = stamp-once

pub returns-clause-nowhere : goal.returns-clause-nowhere
returns-clause-nowhere c = λ m sound s site dropped j k at. stamp-alive m sound j k s site at dropped

pub returns-clause-refers_once : goal.returns-clause-refers_once
returns-clause-refers_once c = λ m sound j k i h r at there.
    sound.refers_apart.once j k i h r (refers_stands m j k r at) (refers_stands m i h r there)

pub returns-clause-refers_nowhere : goal.returns-clause-refers_nowhere
returns-clause-refers_nowhere c = λ m sound r site lost j k at. sound.refers_apart.dead j k r site (refers_stands m j k r at) lost
