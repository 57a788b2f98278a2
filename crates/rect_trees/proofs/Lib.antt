mod Common
mod PlaceLaws
mod HullLaws
mod MeetingLaws
mod RootLaws
