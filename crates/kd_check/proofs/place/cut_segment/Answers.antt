use Rattle.kd_check.proofs.Segments.{segments_last, segments_more}
use Rattle.kd_check.proofs.place.cut_segment.Goals as goal

pub returns-in-Some-clause-more : goal.returns-in-Some-clause-more
returns-in-Some-clause-more c =
    segments_more c.args.path.now c.split_at.result.0.now c.split_at.result.1.now c.in-Some.more.now c.in-Some.field-0-0.now c.segment_size.result c.segment_size.ensures.size c.split_at.ensures.front c.split_at.ensures.back c.in-Some.ensures.cases.0

pub returns-in-None-clause-last : goal.returns-in-None-clause-last
returns-in-None-clause-last c =
    segments_last c.args.path.now c.split_at.result.0.now c.split_at.result.1.now c.segment_size.result c.segment_size.ensures.size c.split_at.ensures.front c.split_at.ensures.back c.in-None.ensures.cases
