mod ClosedLaws
mod HeadLaws
