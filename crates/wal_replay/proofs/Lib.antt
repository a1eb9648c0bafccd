pub mod TextLaws
pub mod SurveyLaws
pub mod FillLaws
pub mod Taking
pub mod Fetching
pub mod Standing
pub mod Reading
