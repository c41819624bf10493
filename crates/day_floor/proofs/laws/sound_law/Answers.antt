use Rattle.day_floor.proofs.Sound.{sound_start, sound_feed, sound_give, sound_back, sound_settle}
use Rattle.day_floor.proofs.laws.sound_law.Goals as goal

pub returns-clause-start : goal.returns-clause-start
returns-clause-start c = sound_start

pub returns-clause-feed : goal.returns-clause-feed
returns-clause-feed c = sound_feed

pub returns-clause-give : goal.returns-clause-give
returns-clause-give c = sound_give

pub returns-clause-back : goal.returns-clause-back
returns-clause-back c = sound_back

pub returns-clause-settle : goal.returns-clause-settle
returns-clause-settle c = sound_settle
